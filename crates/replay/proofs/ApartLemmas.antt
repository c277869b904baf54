-- The networks stay apart: an event of one network is nothing to the other.
use Rattle.std.proofs.Common.{◌≡◌, ℕ, Bool, true, false, List, [], Option, Some, None, refl, ap, subst, ◌∙◌}
use Rattle.journal_text.specs.Lines.{Line}
use Rattle.event_text.specs.Event.{Event}
use Rattle.event_text.specs.declared.event.Event.TheVariants.{Nothing, FilterIn, FilterOut, RouteAdd, RouteDel, Lose, Redist, Work, Query}
use Rattle.event_text.specs.declared.event.FileEvent.{FileEvent}
use Rattle.event_text.specs.Declarations.{Declaration}
use Rattle.event_text.specs.FileEvents.{is_of_one}
use Rattle.journal_laws.specs.FamilyLines.{FamilyLine, lines_in}
use Rattle.router_moments.specs.Moments.{Moment}
use Rattle.router_moments.specs.Blocks.{Acts}
use Rattle.router.specs.Networks.{Networks}
use Rattle.router.specs.Told.{told}
use Rattle.router.specs.Steps.{SecondActs, OneBehindOther, AreJoined, BothAct, FileActs, is_idle}
use Rattle.replay.specs.Apart.{NetworksStayApart}
use Rattle.replay.proofs.Shares.{first_behind, second_behind}

-- a network that is told nothing
nothing_said : (m m' : Moment) (turns : ℕ) (said : List Line) → Acts m Nothing turns m' said → (m' ≡ m) × (said ≡ [])
nothing_said m m' turns said acts = (acts.block.2, acts.block.0)

second_silent : (o o' : Option Moment) (turns : ℕ) (said : List Line) → SecondActs o Nothing turns o' said → (o' ≡ o) × (said ≡ [])
second_silent None o' turns said acts = (acts.1, acts.2)
second_silent (Some m) None turns said acts = absurd acts
second_silent (Some m) (Some m') turns said acts = let is = nothing_said m m' turns said acts in (ap Some is.0, is.1)

-- of an event of the first network the second is told nothing
none_told : (d : Declaration) (event : Event) → is_of_one event ≡ true → (told d event ≡ Nothing) × (is_idle event ≡ false)
none_told d (FilterIn k rules) own = (refl, refl)
none_told d (FilterOut k rules) own = (refl, refl)
none_told d (RouteAdd p row) own = (refl, refl)
none_told d (RouteDel proto p) own = (refl, refl)
none_told d (Lose proto) own = (refl, refl)
none_told d (Redist proto on) own = (refl, refl)
none_told d (Work task n) own = (refl, refl)
none_told d (Query question) own = (refl, refl)
none_told d other own = absurd (cc)

joined_behind : (idle : Bool) (own own6 : List Line) (all : List FamilyLine) → idle ≡ false → AreJoined idle own own6 all → OneBehindOther own own6 all
joined_behind idle own own6 all is joined = (let j : AreJoined false own own6 all = subst (λ (b : Bool). AreJoined b own own6 all) is joined in j)

first_apart : (m next : Networks) (event : Event) (turns : ℕ) (said : List FamilyLine) → is_of_one event ≡ true → BothAct m event (told m.first.declared event) turns next said → (next.second ≡ m.second) × (lines_in true said ≡ [])
first_apart m next event turns said own b =
    let none = none_told m.first.declared event own in
    let silent = second_silent m.second next.second b.taken6 b.inner6 (subst (λ (e : Event). SecondActs m.second e b.taken6 next.second b.inner6) none.0 b.second) in
    (silent.0, ap (lines_in true) (joined_behind (is_idle event) b.inner b.inner6 said none.1 b.joined) ∙ second_behind b.inner b.inner6 ∙ silent.1)

second_apart : (m next : Networks) (event : Event) (turns : ℕ) (said : List FamilyLine) → BothAct m Nothing event turns next said → (next.first ≡ m.first) × (lines_in false said ≡ [])
second_apart m next event turns said b =
    let silent = nothing_said m.first next.first b.taken b.inner b.first in
    (silent.0, ap (lines_in false) b.joined ∙ first_behind b.inner b.inner6 ∙ silent.1)

pub networks_stay_apart : NetworksStayApart
networks_stay_apart n m next line said step = record {
  first = λ own is one. first_apart m next own step.turns said one (subst (λ (e : FileEvent). FileActs m e step.turns next said) is step.acts);
  second = λ own is. second_apart m next own step.turns said (subst (λ (e : FileEvent). FileActs m e step.turns next said) is step.acts);
}
