-- The first rule that decides.
use Rattle.std.specs.Prelude.{◌≡◌, ◌≤◌, ◌⊎◌, List, [], ◌∷◌, ◌++◌, Option, Some, None, fold}
use Rattle.addr4.specs.Blocks.{width}
use Rattle.addr4.specs.Prefixes.{AddressPrefix, Covers}
use Rattle.bgp_attr.specs.Paths.{HasAs}
use Rattle.bgp_attr.specs.Routes.{Route}
use Rattle.policy_rules.specs.Rules.{Condition}
use Rattle.policy_rules.specs.declared.rule.Condition.TheVariants.{Any, Within, Path, Origin}
use Rattle.policy_rules.specs.declared.rule.Action.{Action}
use Rattle.policy_rules.specs.declared.rule.Action.TheVariants.{Pref, Med, NoMed, Prepend}
use Rattle.policy_rules.specs.declared.rule.Verdict.{Verdict}
use Rattle.policy_rules.specs.declared.rule.Verdict.TheVariants.{Accept, Reject, Next}
use Rattle.policy_rules.specs.Rules.{Rule}

-- the condition holds of a route at a prefix
abbrev pub Holds : Condition → AddressPrefix → Route → Type 0
Holds Any p r = Unit {0}
Holds (Within q least most) p r = Covers width q p × (least ≤ p.length) × (p.length ≤ most)
Holds (Path asn) p r = HasAs r.attrs.path asn
Holds (Origin o) p r = r.attrs.origin ≡ o

-- one action is done
abbrev pub done : Action → Route → Route
done (Pref n) r = record r { pref = n }
done (Med n) r = record r { med = Some n }
done NoMed r = record r { med = None }
done (Prepend n) r = record r { prepend = n }

-- actions are done in order
abbrev pub acted : List Action → Route → Route
acted actions r = fold (λ r a. done a r) r actions

-- the attributes, the interior metric and the peer are the same
pub record KeepsSource (r after : Route) : Type 0 where
  pub attrs : after.attrs ≡ r.attrs
  pub igp : after.igp ≡ r.igp
  pub from : after.from ≡ r.from

-- a rule passes a route on: its condition doesn't hold, or it does its actions and its verdict is `next`
abbrev pub PassesOn : AddressPrefix → Rule → Route → Route → Type 0
PassesOn p rule r after =
    ((¬ Holds rule.condition p r) × (after ≡ r))
    ⊎ (Holds rule.condition p r × (rule.verdict ≡ Next) × (after ≡ acted rule.actions r))

-- each rule passes the route on, as the one before left it
abbrev pub AllPassOn : AddressPrefix → List Rule → Route → Route → Type 0
AllPassOn p [] r after = after ≡ r
AllPassOn p (rule ∷ rules) r after = (between : Route) × (PassesOn p rule r between × AllPassOn p rules between after)

-- what a verdict makes of a route
abbrev pub Decides : Verdict → Route → Option Route → Type 0
Decides Accept r result = result ≡ Some r
Decides Reject r result = result ≡ None
Decides Next r result = ⊥

-- one rule's answer, and the route as it leaves it
abbrev pub Outcome : Verdict → Rule → AddressPrefix → Route → Route → Type 0
Outcome Next rule p r after = PassesOn p rule r after
Outcome Accept rule p r after = Holds rule.condition p r × (rule.verdict ≡ Accept) × (after ≡ acted rule.actions r)
Outcome Reject rule p r after = Holds rule.condition p r × (rule.verdict ≡ Reject)

-- behind the rules that pass a route on: it is accepted as it is, or the next rule's condition holds and its verdict
-- decides, after its actions
abbrev pub EndsWith : AddressPrefix → List Rule → Route → Option Route → Type 0
EndsWith p [] r result = result ≡ Some r
EndsWith p (rule ∷ more) r result = Holds rule.condition p r × Decides rule.verdict (acted rule.actions r) result

-- some front of the rules passes the route on, and what follows decides
pub record Judged (rules : List Rule) (p : AddressPrefix) (r : Route) (result : Option Route) : Type 0 where
  pub front : List Rule
  pub behind : List Rule
  pub between : Route
  pub all : rules ≡ front ++ behind
  pub pass : AllPassOn p front r between
  pub ends : EndsWith p behind between result
