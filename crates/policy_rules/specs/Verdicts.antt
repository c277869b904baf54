-- The answer of rules as a function, for what is computed from rows: that it is the one that the first deciding rule gives is a
-- law.
use Rattle.std.specs.Prelude.{ℕ, ◌==◌, ◌&&◌, nat_le, nat_eq, Bool, true, cond, List, [], ◌∷◌, Option, Some, None}
use Rattle.std.specs.List.{list_any}
use Rattle.addr4.specs.Blocks.{width}
use Rattle.addr4.specs.Prefixes.{AddressPrefix, behind}
use Rattle.bgp_attr.specs.declared.path.Segment.{Segment}
use Rattle.bgp_attr.specs.declared.attrs.Origin as origin
use Rattle.bgp_attr.specs.declared.attrs.Origin.TheVariants.{Igp, Egp, Incomplete}
use Rattle.bgp_attr.specs.Routes.{Route}
use Rattle.policy_rules.specs.Rules.{Condition}
use Rattle.policy_rules.specs.declared.rule.Condition.TheVariants.{Any, Within, Path, Origin}
use Rattle.policy_rules.specs.declared.rule.Verdict.{Verdict}
use Rattle.policy_rules.specs.declared.rule.Verdict.TheVariants.{Accept, Reject, Next}
use Rattle.policy_rules.specs.Rules.{Rule}
use Rattle.policy_rules.specs.Judged.{acted}

-- the AS is in some segment
abbrev pub has_as : List Segment → ℕ → Bool
has_as path asn = list_any (λ s. list_any (nat_eq asn) s.numbers) path

abbrev pub origin_number : origin.Origin → ℕ
origin_number Igp = 0
origin_number Egp = 1
origin_number Incomplete = 2

abbrev pub covers : AddressPrefix → AddressPrefix → Bool
covers p q = nat_le p.address q.address && nat_le (behind width q) (behind width p)

-- whether the condition holds
abbrev pub holds : Condition → AddressPrefix → Route → Bool
holds Any p r = true
holds (Within q least most) p r = covers q p && (nat_le least p.length && nat_le p.length most)
holds (Path asn) p r = has_as r.attrs.path asn
holds (Origin o) p r = origin_number r.attrs.origin == origin_number o

-- what the verdict makes of a route, or else the later rules
abbrev pub by_verdict : Verdict → Route → Option Route → Option Route
by_verdict Accept r later = Some r
by_verdict Reject r later = None
by_verdict Next r later = later

-- the answer of the rules
abbrev pub judged_by : List Rule → AddressPrefix → Route → Option Route
judged_by [] p r = Some r
judged_by (rule ∷ rules) p r =
    cond (holds rule.condition p r)
    (by_verdict rule.verdict (acted rule.actions r) (judged_by rules p (acted rule.actions r)))
    (judged_by rules p r)
