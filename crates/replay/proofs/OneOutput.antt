-- For each text exactly one output is allowed.
use Rattle.std.proofs.Common.{false, ◌≡◌, ℕ, ◌+◌, ◌-◌, true, refl, sym, ap, subst, subst₂, ◌∙◌, List, [], ◌∷◌, ◌++◌, take, length, Option, Some, None, Result, Ok}
use Rattle.std.proofs.lemmas.Option.{some_pair_parts}
use Rattle.addr4.specs.Prefixes.{AddressPrefix}
use Rattle.bgp_attr.specs.declared.speaker.Profile.{Profile}
use Rattle.link_change.specs.Rows.{Rows}
use Rattle.journal_check.specs.Laws.{OneAnswer}
use Rattle.journal_text.specs.declared.line.Code.{Code}
use Rattle.journal_text.specs.Lines.{Line}
use Rattle.journal_text.specs.declared.line.Line.TheVariants.{Refused}
use Rattle.journal_text.specs.declared.link.Link.{Link}
use Rattle.journal_text.specs.Lines.{Value}
use Rattle.journal_text.specs.Texts.{line_text}
use Rattle.journal_laws.specs.FamilyLines.{FamilyLine, of_family, text_of}
use Rattle.event_text.specs.Event.{Event}
use Rattle.event_text.specs.declared.event.Event.TheVariants.{Nothing}
use Rattle.event_text.specs.declared.event.FileEvent.{FileEvent}
use Rattle.event_text.specs.declared.event.FileEvent.TheVariants.{First, Local6, Second}
use Rattle.event_text.specs.FileEvents.{file_refusal, IsWellSaid, with_ipv6}
use Rattle.event_text.specs.WellFormed.{IsWellFormed}
use Rattle.mrt_reader.specs.Files.{TextsAreOne}
use Rattle.std.specs.Io.KnownBytes.{Appends}
use Rattle.check_run.specs.Answers.{answer_text, Judges}
use Rattle.check_run.specs.declared.ending.Ending.{Ending}
use Rattle.check_run.specs.declared.ending.Ending.TheVariants as endings
use Rattle.check_run.specs.Lines.{lines_of}
use Rattle.check_run.specs.Runs.{Took, Writes}
use Rattle.command_line.specs.declared.words.Command.{Command}
use Rattle.command_line.specs.declared.words.Command.TheVariants as commands
use Rattle.router_moments.specs.Laws.{FirstStands}
use Rattle.router_moments.specs.Moments.{Moment, first_moment, router_links}
use Rattle.router_moments.proofs.ProfileLemmas.{then_stands}
use Rattle.router_determinism.specs.One.{BlockIsOne, ListingIsOne}
use Rattle.router_moments.specs.Stands.{Stands}
use Rattle.router.specs.Ties.{in_second}
use Rattle.router.specs.Networks.{Networks, OfSecond, first_networks, second_moment}
use Rattle.router.specs.Told.{told, words6}
use Rattle.router.specs.Steps.{is_idle, AreJoined, SecondActs, BothAct, FileActs}
use Rattle.replay.specs.Judging.{judge, verdict}
use Rattle.replay.specs.One.{OutputIsOne, RefusalIsOne, TotalsAreOne, CallsAreOne}
use Rattle.replay.specs.Output.{Step, Run, RunIn, AllStand, IsOutput}
use Rattle.replay.specs.Totals.{IsTotal, AreTotalsOf, AreTotals, turns_line, rows_line, total_links}
use Rattle.replay.specs.Answers.{HasDone, HasRefused, HasBroken}
use Rattle.replay.proofs.Lines.{accepted_is_admitted, accepted_is_said}
use Rattle.replay.proofs.Shares.{joined_one}
use Rattle.replay.proofs.Sound.{MayBeSaidIn, AreSound, first_sound, step_sound, first_formed, told_in, second_in, begins_in}

-- ---- events
pub same_event : (a b : FileEvent) (r : Result FileEvent Code) → r ≡ Ok a → r ≡ Ok b → a ≡ b
same_event a b r first second = let same : ◌≡◌ {A = Result FileEvent Code} (Ok a) (Ok b) = sym first ∙ second in cc

-- what the second network does of what it is told, where it is there
second_is_one : BlockIsOne → (o one other : Option Moment) (event : Event) (said more : List Line) (turns count : ℕ) → OfSecond Stands o → MayBeSaidIn o event → SecondActs o event turns one said → SecondActs o event count other more
    → (said ≡ more) × (turns ≡ count) × (one ≡ other)
second_is_one law None one other event said more turns count stands may f g = (f.2 ∙ sym g.2, f.0 ∙ sym g.0, f.1 ∙ sym g.1)
second_is_one law (Some m) None other event said more turns count stands may f g = absurd f
second_is_one law (Some m) (Some one) None event said more turns count stands may f g = absurd g
second_is_one law (Some m) (Some one) (Some other) event said more turns count stands may f g =
    let same = law m one other event said more turns count stands may.formed f.block g.block in
    (same.0, same.1, ap Some same.2)

one_pair : (one other : Networks) → one.first ≡ other.first → one.second ≡ other.second → one ≡ other
one_pair one other first second = λ i. record { first = first i; second = second i }

both_are_one : BlockIsOne → (m one other : Networks) (event event6 : Event) (said more : List FamilyLine) (turns count : ℕ) → AllStand m → IsWellFormed m.first.declared.v6 m.first.declared.profile event → MayBeSaidIn m.second event6
    → BothAct m event event6 turns one said → BothAct m event event6 count other more → (said ≡ more) × (turns ≡ count) × (one ≡ other)
both_are_one law m one other event event6 said more turns count stands formed may f g =
    let a = law m.first one.first other.first event f.inner g.inner f.taken g.taken stands.0 formed f.first.block g.first.block in
    let b = second_is_one law m.second one.second other.second event6 f.inner6 g.inner6 f.taken6 g.taken6 stands.1 may f.second g.second in
    let joined : AreJoined (is_idle event) g.inner g.inner6 said = subst₂ (λ (own own6 : List Line). AreJoined (is_idle event) own own6 said) a.0 b.0 f.joined in
    (joined_one (is_idle event) g.inner g.inner6 said more joined g.joined, f.sum ∙ (λ i. a.1 i + b.1 i) ∙ sym g.sum, one_pair one other a.2 b.2)

-- `local6`
first_stands : FirstStands → (profile : Profile) → Stands (second_moment profile)
first_stands stand profile = then_stands (first_moment true) (in_second (with_ipv6 profile)) (stand true) refl

file_is_one : BlockIsOne → FirstStands → (m one other : Networks) (event : FileEvent) (said more : List FamilyLine) (turns count : ℕ) → AreSound m → file_refusal m.first.declared event ≡ None → IsWellSaid m.first.declared.profile event
    → FileActs m event turns one said → FileActs m event count other more → (said ≡ more) × (turns ≡ count) × (one ≡ other)
file_is_one law stand m one other (First event) said more turns count sound admitted words f g =
    both_are_one law m one other event (told m.first.declared event) said more turns count sound.stands (first_formed m.first.declared event sound.same.family words) (told_in m event sound admitted words) f g
file_is_one law stand m one other (Local6 addr) said more turns count sound admitted words f g =
    let profile = m.first.declared.profile in
    let b = second_is_one law (Some (second_moment profile)) one.second other.second (words6 addr m.first.declared.speaker) f.1.inner6 g.1.inner6 0 0 (first_stands stand profile) (begins_in m addr sound admitted words) f.1.begins g.1.begins in
    (f.1.lines ∙ ap (of_family true) b.0 ∙ sym g.1.lines, f.0 ∙ sym g.0, one_pair one other (f.1.first ∙ sym g.1.first) b.2)
file_is_one law stand m one other (Second event) said more turns count sound admitted words f g =
    both_are_one law m one other Nothing event said more turns count sound.stands tt (second_in m event sound admitted words) f g

-- ---- lines
module _ (law : BlockIsOne) (stand : FirstStands) where
  -- a line that is stepped leaves no choice
  step_is_one : (n : ℕ) (m one other : Networks) (line : List ℕ) (said more : List FamilyLine) → AreSound m → (f : Step n m line said one) (g : Step n m line more other) → (said ≡ more) × (f.turns ≡ g.turns) × (one ≡ other)
  step_is_one n m one other line said more sound f g =
      file_is_one law stand m one other f.event said more f.turns g.turns sound (accepted_is_admitted n m.first.declared line f.event f.accepted) (accepted_is_said n m.first.declared line f.event f.accepted) f.acts
      (subst (λ (e : FileEvent). FileActs m e g.turns other more) (same_event g.event f.event (judge n m.first.declared line) g.accepted f.accepted) g.acts)

  pub run_is_one : (n : ℕ) (m one other : Networks) (lines : List (List ℕ)) (out more : List FamilyLine) → AreSound m → Run n m lines out one → Run n m lines more other → (out ≡ more) × (one ≡ other)
  run_is_one n m one other [] out more sound f g = (f.0 ∙ sym g.0, f.1 ∙ sym g.1)
  run_is_one n m one other (line ∷ lines) out more sound f g =
      let first = step_is_one n m f.2 g.2 line f.0 g.0 sound f.3 g.3 in
      let rest = run_is_one (n + 1) f.2 one other lines f.1 g.1 (step_sound n m f.2 line f.0 sound f.3) f.5 (subst (λ (x : Networks). Run (n + 1) x lines g.1 other) (sym first.2) g.5) in
      (f.4 ∙ ap (λ (l : List FamilyLine). l ++ f.1) first.0 ∙ ap (λ (l : List FamilyLine). g.0 ++ l) rest.0 ∙ sym g.4, rest.1)

  -- and takes as many turns
  turns_are_one : (n : ℕ) (m one other : Networks) (lines : List (List ℕ)) (out more : List FamilyLine) (turns count : ℕ) → AreSound m → RunIn n m lines out one turns → RunIn n m lines more other count → turns ≡ count
  turns_are_one n m one other [] out more turns count sound f g = f.2 ∙ sym g.2
  turns_are_one n m one other (line ∷ lines) out more turns count sound f g =
      let first = step_is_one n m f.2 g.2 line f.0 g.0 sound f.4 g.4 in
      let rest = turns_are_one (n + 1) f.2 one other lines f.1 g.1 f.3 g.3 (step_sound n m f.2 line f.0 sound f.4) f.7 (subst (λ (x : Networks). RunIn (n + 1) x lines g.1 other g.3) (sym first.2) g.7) in
      f.6 ∙ ap (λ (x : ℕ). x + f.3) first.1 ∙ ap (λ (x : ℕ). g.4.turns + x) rest ∙ sym g.6

-- ---- outputs
module _ (block : BlockIsOne) (stand : FirstStands) where
  pub output_is_one : OutputIsOne
  output_is_one quiet lines one other f g = f.text ∙ ap (text_of quiet) (run_is_one block stand 1 first_networks f.end g.end lines f.out g.out (first_sound stand) f.run g.run).0 ∙ sym g.text

  same_refusal : (a b : ℕ) (c d : Code) (o : Option (ℕ × Code)) → o ≡ Some (a, c) → o ≡ Some (b, d) → (a ≡ b) × (c ≡ d)
  same_refusal a b c d o first second = let same : ◌≡◌ {A = Option (ℕ × Code)} (Some (a, c)) (Some (b, d)) = sym first ∙ second in some_pair_parts a b c d same

  pub refusal_is_one : RefusalIsOne
  refusal_is_one quiet text one other f g =
      let same = same_refusal f.number g.number f.code g.code (verdict text) f.refused g.refused in
      let earlier : f.earlier ≡ g.earlier = output_is_one quiet (take (g.number - 1) (lines_of text)) f.earlier g.earlier (subst (λ (n : ℕ). IsOutput quiet (take (n - 1) (lines_of text)) f.earlier) same.0 f.output) g.output in
      f.written ∙ ap (λ (bytes : List ℕ). bytes ++ line_text false (Refused f.number f.code)) earlier ∙ ap (λ (n : ℕ). g.earlier ++ line_text false (Refused n f.code)) same.0
      ∙ ap (λ (c : Code). g.earlier ++ line_text false (Refused g.number c)) same.1 ∙ sym g.written

  -- ---- totals
  module _ (listing : ListingIsOne) where
    total_is_one : (link : Link) (rows : Option (Rows Value)) (one other : List ℕ) → IsTotal link rows one → IsTotal link rows other → one ≡ other
    total_is_one link None one other f g = f ∙ sym g
    total_is_one link (Some rows) one other f g = f.3 ∙ ap (λ (l : List (AddressPrefix × Value)). rows_line link (length l)) (listing rows f.0 g.0 f.1 g.1) ∙ sym g.3

    links_are_one : (m : Moment) (links : List Link) (one other : List ℕ) → AreTotalsOf m links one → AreTotalsOf m links other → one ≡ other
    links_are_one m [] one other f g = f ∙ sym g
    links_are_one m (link ∷ links) one other f g =
        f.4 ∙ ap (λ (l : List ℕ). l ++ f.1) (total_is_one link (router_links m link) f.0 g.0 f.2 g.2) ∙ ap (λ (l : List ℕ). g.0 ++ l) (links_are_one m links f.1 g.1 f.3 g.3) ∙ sym g.4

    counted_is_one : (m : Moment) (turns : ℕ) (one other : List ℕ) → AreTotals m turns one → AreTotals m turns other → one ≡ other
    counted_is_one m turns one other f g = f.3 ∙ ap (λ (l : List ℕ). turns_line turns ++ l) (links_are_one m (total_links m.declared.peers) f.0 g.0 f.1 g.1) ∙ sym g.3

    pub totals_are_one : TotalsAreOne
    totals_are_one quiet text one other f g =
        let first = f.output in
        let second = g.output in
        let end : f.end ≡ g.end = sym first.at ∙ (run_is_one block stand 1 first_networks first.output.end second.output.end (lines_of text) first.output.out second.output.out (first_sound stand) first.output.run second.output.run).1 ∙ second.at in
        let turns : f.turns ≡ g.turns = turns_are_one block stand 1 first_networks first.output.end second.output.end (lines_of text) first.output.out second.output.out f.turns g.turns (first_sound stand) first.taken second.taken in
        let totals : f.totals ≡ g.totals = counted_is_one g.end.first g.turns f.totals g.totals (subst (λ (n : ℕ). AreTotals g.end.first n f.totals) turns (subst (λ (m : Networks). AreTotals m.first f.turns f.totals) end f.counted)) g.counted in
        f.written ∙ ap (λ (bytes : List ℕ). bytes ++ f.totals) (output_is_one quiet (lines_of text) f.earlier g.earlier first.output second.output) ∙ ap (λ (bytes : List ℕ). g.earlier ++ bytes) totals ∙ sym g.written

    -- ---- calls
    -- what one call wrote is what the other one did
    same_taken : (taken : List ℕ) (one other : Option (List ℕ)) (a b : List ℕ) → Appends (Some taken) one a → Appends (Some taken) other b → a ≡ b → one ≡ other
    same_taken taken None other a b f g same = absurd f
    same_taken taken (Some x) None a b f g same = absurd g
    same_taken taken (Some x) (Some y) a b f g same = ap (λ (l : List ℕ). Some l) (f ∙ ap (λ (l : List ℕ). taken ++ l) same ∙ sym g)

    took_one : (text taken : List ℕ) (one other : Option (List ℕ)) (P : List ℕ → List ℕ → Type 0) → ((a b : List ℕ) → P text a → P text b → a ≡ b) → Took (Some text) (Some taken) one P → Took (Some text) (Some taken) other P → one ≡ other
    took_one text taken one other P law f g = same_taken taken one other f.1 g.1 f.3 g.3 (law f.1 g.1 (subst (λ (t : List ℕ). P t f.1) f.2 f.4) (subst (λ (t : List ℕ). P t g.1) g.2 g.4))

    wrote_one : (taken : List ℕ) (one other : Option (List ℕ)) (P : List ℕ → Type 0) → ((a b : List ℕ) → P a → P b → a ≡ b) → Writes (Some taken) one P → Writes (Some taken) other P → one ≡ other
    wrote_one taken one other P law f g = same_taken taken one other f.0 g.0 f.1 g.1 (law f.0 g.0 f.2 g.2)

    module _ (answers : OneAnswer) (texts : TextsAreOne) where
      judged_one : (ending : Ending) (text a b : List ℕ) → Judges text a ending → Judges text b ending → a ≡ b
      judged_one ending text a b f g = f.written ∙ ap answer_text (answers (lines_of text) f.checked g.checked f.is g.is) ∙ sym g.written

      done_one : (command : Option Command) (text taken : List ℕ) (one other : Option (List ℕ)) → HasDone command (Some text) (Some taken) one → HasDone command (Some text) (Some taken) other → one ≡ other
      done_one (Some (commands.Run quiet)) text taken one other f g = took_one text taken one other _ (λ a b first second. output_is_one quiet (lines_of text) a b first second) f g
      done_one (Some (commands.Gen seed count quiet)) text taken one other f g = wrote_one taken one other _ (λ a b first second. totals_are_one quiet _ a b first second) f g
      done_one (Some commands.Check) text taken one other f g = took_one text taken one other _ (λ a b first second. judged_one endings.Lawful text a b first second) f g
      done_one (Some (commands.Mrt as4)) text taken one other f g = took_one text taken one other _ (λ a b first second. (texts as4 text a b None None first second).0) f g
      done_one None text taken one other f g = absurd f

      refused_one : (command : Option Command) (text taken : List ℕ) (one other : Option (List ℕ)) → HasRefused command (Some text) (Some taken) one → HasRefused command (Some text) (Some taken) other → one ≡ other
      refused_one (Some (commands.Run quiet)) text taken one other f g = took_one text taken one other _ (λ a b first second. refusal_is_one quiet text a b first second) f g
      refused_one (Some (commands.Gen seed count quiet)) text taken one other f g = wrote_one taken one other _ (λ a b first second. refusal_is_one quiet _ a b first second) f g
      refused_one (Some commands.Check) text taken one other f g = took_one text taken one other _ (λ a b first second. judged_one endings.Refused text a b first second) f g
      refused_one (Some (commands.Mrt as4)) text taken one other f g = took_one text taken one other _ (λ a b first second. (texts as4 text a b (Some first.0) (Some second.0) first.1 second.1).0) f g
      refused_one None text taken one other f g = absurd f

      broken_one : (command : Option Command) (text taken : List ℕ) (one other : Option (List ℕ)) → HasBroken command (Some text) (Some taken) one → HasBroken command (Some text) (Some taken) other → one ≡ other
      broken_one (Some (commands.Run quiet)) text taken one other f g = absurd f
      broken_one (Some (commands.Gen seed count quiet)) text taken one other f g = absurd f
      broken_one (Some commands.Check) text taken one other f g = took_one text taken one other _ (λ a b first second. judged_one endings.Broken text a b first second) f g
      broken_one (Some (commands.Mrt as4)) text taken one other f g = absurd f
      broken_one None text taken one other f g = absurd f

      pub calls_are_one : CallsAreOne
      calls_are_one command text taken one other = record { done = done_one command text taken one other; refused = refused_one command text taken one other; broken = broken_one command text taken one other }
