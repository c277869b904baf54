-- Lines that are read, and may stand where they do, are accepted.
use Rattle.std.proofs.Common.{◌≡◌, ℕ, ◌+◌, ◌<◌, Bool, true, false, cond, nat_eq, List, [], ◌∷◌, length, Option, None, Result, Ok, Err, refl, sym, ap, ◌∙◌, arith}
use Rattle.std.specs.Prelude.{nat_le}
use Rattle.std.specs.List.{AllByRecursion, flat_map, list_all}
use Rattle.std.proofs.lemmas.List.{append-nil}
use Rattle.std.proofs.lemmas.Bool.Decides.{nat_tests}
use Rattle.journal_check.proofs.InkLemmas.{both_true, printable}
use Rattle.journal_text.specs.declared.line.Code.{Code}
use Rattle.journal_text.specs.declared.line.Code.TheVariants.{E1, E6}
use Rattle.event_text.specs.Event.{Event}
use Rattle.event_text.specs.Words.{is_clean}
use Rattle.policy_rules.specs.Words.{words}
use Rattle.bgp_attr.specs.declared.speaker.Profile.{Profile}
use Rattle.event_text.specs.Events.{read_event, in_grammar, event_of}
use Rattle.event_text.specs.Declarations.{Declaration, refusal}
use Rattle.event_text.specs.declared.event.FileEvent.{FileEvent}
use Rattle.event_text.specs.declared.event.FileEvent.TheVariants.{First}
use Rattle.event_text.specs.FileEvents.{read_file, file_refusal}
use Rattle.event_text.specs.FileLaws.{Ipv4LinesStay, Ipv4LinesMayStay}
use Rattle.live_state.specs.Declared.{declared_after}
use Rattle.router.specs.Told.{declared_behind}
use Rattle.check_run.specs.Lines.{IsPart, lines_of, lines_in, ended}
use Rattle.check_run.proofs.Cuts.{lines_done}
use Rattle.journal_laws.proofs.LawfulTexts.{part_of, no_return}
use Rattle.replay.specs.Judging.{judge, judged, placed, refused_or, verdict_from}

-- ---- the lines of a text of clean lines

pub clean_line : (p : Profile) (line : List ℕ) (event : Event) → read_event p line ≡ Ok event → is_clean line ≡ true
unfolding read_event
clean_line p line event h = by (is_clean line) h
  where
    by : (b : Bool) → cond b (in_grammar (event_of p (words line))) (Err E1) ≡ Ok event → b ≡ true
    by true e = refl
    by false e = absurd (cc)

bytes_of : (line : List ℕ) → is_clean line ≡ true → list_all printable line ≡ true
unfolding is_clean
bytes_of line e = (both_true (nat_le (length line) 16384) (list_all printable line) e).1

abbrev pub AreClean : List (List ℕ) → Type 0
AreClean ls = AllByRecursion (λ line. is_clean line ≡ true) ls

clean_parts : (ls : List (List ℕ)) → AreClean ls → AllByRecursion IsPart ls
clean_parts [] h = tt
clean_parts (l ∷ ls) h = (part_of l (bytes_of l h.0), clean_parts ls h.1)

stripped : (ls : List (List ℕ)) → AreClean ls → lines_in ls ≡ ls
stripped [] h = refl
stripped (l ∷ ls) h = (λ i. no_return l (bytes_of l h.0) i ∷ stripped ls h.1 i)

pub clean_lines : (ls : List (List ℕ)) → AreClean ls → lines_of (flat_map ended ls) ≡ ls
clean_lines ls h = ap lines_of (sym (append-nil (flat_map ended ls))) ∙ (lines_done ls [] (clean_parts ls h) ∙ (append-nil (lines_in ls) ∙ stripped ls h))

-- ---- a line whose event may stand there

accepts_event : (n : ℕ) (d : Declaration) (line : List ℕ) (e : FileEvent) → n < 4294967296 → read_file d.profile line ≡ Ok e → file_refusal d e ≡ None → judge n d line ≡ Ok e
unfolding judge
accepts_event n d line e few read free =
    let early : nat_eq n 4294967296 ≡ false = grind (arith, nat_tests) in
    ap (judged n d) read ∙ (ap (λ (why : Option Code). placed n why e) free ∙ ap (λ b. cond b (Err E6) (Ok e)) early)

-- a line of IPv4's network, in a file that may have words of IPv6
module _ (reads : Ipv4LinesStay) (stays : Ipv4LinesMayStay) where
  pub accepts_line : (n : ℕ) (d : Declaration) (line : List ℕ) (e : Event) → n < 4294967296 → read_event d.profile line ≡ Ok e → refusal d e ≡ None → judge n d line ≡ Ok (First e)
  accepts_line n d line e few read free = accepts_event n d line (First e) few (reads d.profile line e read) (stays d e ∙ free)

  -- and those behind it
  pub accepts_then : (n : ℕ) (d : Declaration) (line : List ℕ) (lines : List (List ℕ)) (e : Event) → n < 4294967296 → read_event d.profile line ≡ Ok e → refusal d e ≡ None → verdict_from (n + 1) (declared_after d e) lines ≡ None
      → verdict_from n d (line ∷ lines) ≡ None
  accepts_then n d line lines e few read free later =
      ap (λ (r : Result FileEvent Code). refused_or n r (λ f. verdict_from (n + 1) (declared_behind d f) lines)) (accepts_line n d line e few read free) ∙ later
