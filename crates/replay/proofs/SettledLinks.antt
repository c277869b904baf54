-- After an idle the links of both networks are what their live states alone ask for, and no task has work.
use Rattle.std.proofs.Common.{◌≡◌, ℕ, List, Option, Some, None, subst}
use Rattle.journal_text.specs.Lines.{Line}
use Rattle.event_text.specs.declared.event.Event.TheVariants.{Idle}
use Rattle.event_text.specs.declared.event.FileEvent.{FileEvent}
use Rattle.event_text.specs.declared.event.FileEvent.TheVariants.{First}
use Rattle.journal_laws.specs.FamilyLines.{FamilyLine}
use Rattle.router_moments.specs.Moments.{Moment}
use Rattle.router_moments.specs.Scratch.{IsExact}
use Rattle.router_moments.specs.Turns.{IsSettled}
use Rattle.router_moments.specs.Blocks.{Acts, Idles}
use Rattle.router.specs.Networks.{Networks, OfSecond, OfEach}
use Rattle.router.specs.Steps.{SecondActs, BothAct, FileActs}

-- where an idle ended
pub record IsIdled (m : Moment) : Type 0 where
  pub exact : IsExact m
  pub settled : IsSettled m

idled : (m m' : Moment) (turns : ℕ) (said : List Line) → Acts m Idle turns m' said → IsIdled m'
idled m m' turns said acts = let block : Idles m said turns m' = acts.block in record { exact = block.exact; settled = block.settled }

second_idled : (o o' : Option Moment) (turns : ℕ) (said : List Line) → SecondActs o Idle turns o' said → OfSecond IsIdled o'
second_idled o None turns said acts = tt
second_idled None (Some m') turns said acts = absurd (let clash : ◌≡◌ {A = Option Moment} (Some m') None = acts.1 in cc)
second_idled (Some m) (Some m') turns said acts = idled m m' turns said acts

pub all_idled : (m m' : Networks) (event : FileEvent) (turns : ℕ) (said : List FamilyLine) → FileActs m event turns m' said → event ≡ First Idle → OfEach (λ v6. IsIdled) m'
all_idled m m' event turns said acts is =
    let both : BothAct m Idle Idle turns m' said = subst (λ (e : FileEvent). FileActs m e turns m' said) is acts in
    (idled m.first m'.first both.taken both.inner both.first, second_idled m.second m'.second both.taken6 both.inner6 both.second)
