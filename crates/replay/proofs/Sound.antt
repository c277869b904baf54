-- Behind each line both networks stand, know the same, and what is declared is what events can have declared. What each is told then is
-- well formed, and may stand there.
use Rattle.std.proofs.Common.{◌≡◌, ℕ, ◌+◌, Bool, false, List, [], ◌∷◌, Option, Some, None, refl, sym, subst}
use Rattle.bgp_attr.specs.Speakers.{Speaker}
use Rattle.bgp_attr.specs.declared.speaker.Profile.{Profile}
use Rattle.event_text.specs.Event.{Event}
use Rattle.event_text.specs.declared.event.Event.TheVariants.{Local}
use Rattle.event_text.specs.declared.event.FileEvent.{FileEvent}
use Rattle.event_text.specs.declared.event.FileEvent.TheVariants.{First, Local6, Second}
use Rattle.event_text.specs.Declarations.{Declaration, refusal, IsDeclaration}
use Rattle.event_text.specs.FileEvents.{file_refusal, IsWellSaid}
use Rattle.event_text.specs.WellFormed.{IsWellFormed}
use Rattle.event_text.proofs.FileLemmas.{ipv6_kept}
use Rattle.journal_laws.specs.FamilyLines.{FamilyLine}
use Rattle.journal_laws.proofs.PrintedPeers.{event_leaves}
use Rattle.router_moments.specs.Moments.{Moment}
use Rattle.router_moments.specs.Laws.{FirstStands}
use Rattle.router.specs.Ties.{AreTied, with_addr}
use Rattle.router.specs.Networks.{Networks, OfSecond, KnowTheSame, IsTiedTo, first_networks, second_moment}
use Rattle.router.specs.Told.{told, words6, declared_behind}
use Rattle.router.proofs.ReadingLemmas.{sessions_end}
use Rattle.router.proofs.ToldLemmas.{may_be_told}
use Rattle.router.proofs.AloneLemmas.{second_may, local6_may}
use Rattle.replay.specs.Output.{Step, Run, AllStand}
use Rattle.replay.proofs.Lines.{accepted_is_admitted, accepted_is_said}
use Rattle.replay.proofs.Acted.{moves_follow, networks_stand}
use Rattle.replay.proofs.Runs.{step_moves}

-- ---- what the first network is told
-- words of IPv4 are those of the first network
pub first_formed : (d : Declaration) (event : Event) → d.v6 ≡ false → IsWellFormed false d.profile event → IsWellFormed d.v6 d.profile event
first_formed d event first formed = subst (λ (v6 : Bool). IsWellFormed v6 d.profile event) (sym first) formed

first_admitted : (d : Declaration) (event : Event) → file_refusal d (First event) ≡ None → refusal d event ≡ None
unfolding file_refusal
first_admitted d event admitted = admitted

behind_declared : (d : Declaration) (event : FileEvent) → d.v6 ≡ false → IsDeclaration d → file_refusal d event ≡ None → IsWellSaid d.profile event → IsDeclaration (declared_behind d event)
behind_declared d (First event) first declared admitted said = (event_leaves d event declared (first_admitted d event admitted) (first_formed d event first said)).declared
behind_declared d (Local6 addr) first declared admitted said = ipv6_kept d declared
behind_declared d (Second event) first declared admitted said = declared

-- ---- what the second network is told
-- it may stand there
pub record MayBeSaid (d6 : Declaration) (event : Event) : Type 0 where
  pub admitted : refusal d6 event ≡ None
  pub formed : IsWellFormed d6.v6 d6.profile event

told_said : (d d6 : Declaration) (event : Event) → AreTied d d6 → d.v6 ≡ false → file_refusal d (First event) ≡ None → IsWellFormed false d.profile event → MayBeSaid d6 (told d event)
told_said d d6 event tied first admitted formed =
    let may = may_be_told sessions_end d d6 event tied first (first_admitted d event admitted) formed in
    record { admitted = may.admitted; formed = may.formed }

second_said : (d d6 : Declaration) (event : Event) → AreTied d d6 → file_refusal d (Second event) ≡ None → IsWellSaid d.profile (Second event) → MayBeSaid d6 event
second_said d d6 event tied admitted said =
    let may = second_may d d6 event tied admitted said in
    record { admitted = may.admitted; formed = may.formed }

-- `local6`, which begins it
local_admitted : (profile : Profile) (words : Speaker) → refusal (second_moment profile).declared (Local words) ≡ None
unfolding refusal
local_admitted profile words = refl

begins_said : (d : Declaration) (addr : ℕ) → IsDeclaration d → d.v6 ≡ false → file_refusal d (Local6 addr) ≡ None → IsWellSaid d.profile (Local6 addr) → MayBeSaid (second_moment d.profile).declared (words6 addr d.speaker)
begins_said d addr declared first admitted said =
    let may = local6_may d addr declared first admitted said in
    subst (λ (s : Option Speaker). MayBeSaid (second_moment d.profile).declared (words6 addr s)) (sym may.local) (record { admitted = local_admitted d.profile (with_addr addr may.me); formed = may.words })

-- ---- both
pub record AreSound (m : Networks) : Type 0 where
  pub stands : AllStand m
  pub same : KnowTheSame m
  pub declared : IsDeclaration m.first.declared

pub first_sound : FirstStands → AreSound first_networks
first_sound stand = record { stands = (stand false, tt); same = record { family = refl; tied = refl }; declared = refl }

pub step_sound : (n : ℕ) (m next : Networks) (line : List ℕ) (said : List FamilyLine) → AreSound m → Step n m line said next → AreSound next
step_sound n m next line said sound step =
    let admitted = accepted_is_admitted n m.first.declared line step.event step.accepted in
    let words = accepted_is_said n m.first.declared line step.event step.accepted in
    record {
      stands = networks_stand m next said (moves_follow m next said (step_moves n m next line said sound.stands step));
      same = step.same;
      declared = subst IsDeclaration (sym step.declared) (behind_declared m.first.declared step.event sound.same.family sound.declared admitted words);
    }

pub run_sound : (n : ℕ) (m end : Networks) (lines : List (List ℕ)) (out : List FamilyLine) → AreSound m → Run n m lines out end → AreSound end
run_sound n m end [] out sound run = subst AreSound (sym run.1) sound
run_sound n m end (line ∷ lines) out sound run = run_sound (n + 1) run.2 end lines run.1 (step_sound n m run.2 line run.0 sound run.3) run.5

-- the second network, where it is there, is told what may stand there
abbrev pub MayBeSaidIn : Option Moment → Event → Type 0
MayBeSaidIn o event = OfSecond (λ n. MayBeSaid n.declared event) o

of_tied : (first : Moment) (o : Option Moment) (event : Event) → IsTiedTo first o → ((d6 : Declaration) → AreTied first.declared d6 → MayBeSaid d6 event) → MayBeSaidIn o event
of_tied first None event tied each = tt
of_tied first (Some m) event tied each = each m.declared tied

pub told_in : (m : Networks) (event : Event) → AreSound m → file_refusal m.first.declared (First event) ≡ None → IsWellFormed false m.first.declared.profile event → MayBeSaidIn m.second (told m.first.declared event)
told_in m event sound admitted formed = of_tied m.first m.second (told m.first.declared event) sound.same.tied (λ d6 tied. told_said m.first.declared d6 event tied sound.same.family admitted formed)

pub second_in : (m : Networks) (event : Event) → AreSound m → file_refusal m.first.declared (Second event) ≡ None → IsWellSaid m.first.declared.profile (Second event) → MayBeSaidIn m.second event
second_in m event sound admitted said = of_tied m.first m.second event sound.same.tied (λ d6 tied. second_said m.first.declared d6 event tied admitted said)

pub begins_in : (m : Networks) (addr : ℕ) → AreSound m → file_refusal m.first.declared (Local6 addr) ≡ None → IsWellSaid m.first.declared.profile (Local6 addr)
    → MayBeSaid (second_moment m.first.declared.profile).declared (words6 addr m.first.declared.speaker)
begins_in m addr sound admitted said = begins_said m.first.declared addr sound.declared sound.same.family admitted said
