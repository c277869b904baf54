-- What `check` says of an output.
use Rattle.std.proofs.Common.{◌≡◌, ◌≢◌, ℕ, ◌+◌, ◌-◌, ◌≤◌, Bool, true, false, cond, List, [], ◌∷◌, ◌++◌, take, Option, Some, None, Ok, Err, refl, sym, ap, subst, ◌∙◌, inl, inr, arith}
use Rattle.std.specs.List.{AllByRecursion, cons_option}
use Rattle.bgp_attr.specs.declared.speaker.Neighbour.{Neighbour}
use Rattle.journal_text.specs.Texts.{line_text, entries_of}
use Rattle.journal_text.specs.Walk.{Leads, IsLawful, no_links}
use Rattle.journal_text.specs.declared.line.Code.{Code}
use Rattle.journal_text.specs.Lines.{Line}
use Rattle.journal_text.specs.declared.line.Line.TheVariants.{Refused}
use Rattle.journal_laws.specs.FamilyLines.{FamilyLine, lines_in, family_entries, text_of, AreLawfulLines, printing_in, IsPrintedLine}
use Rattle.journal_laws.specs.Printed.{IsPrinted}
use Rattle.journal_laws.specs.Peers.{neighbours}
use Rattle.journal_laws.proofs.LawfulTexts.{printed_judged, refused_judged, lawful_ends}
use Rattle.event_gen.specs.Lines.{text}
use Rattle.event_text.specs.Declarations.{Declaration, no_declaration, IsCounted}
use Rattle.router_moments.specs.Laws.{FirstStands}
use Rattle.router_moments.specs.Moments.{Moment, router_links}
use Rattle.router_moments.specs.Printable.{ArePrinted}
use Rattle.router.specs.Networks.{Networks, OfSecond, IsTiedTo, KnowTheSame, first_networks}
use Rattle.router.specs.Told.{declared_behind}
use Rattle.check_run.specs.Lines.{lines_of}
use Rattle.check_run.specs.Runs.{Took}
use Rattle.command_line.specs.declared.words.Command.{Command}
use Rattle.command_line.specs.declared.words.Command.TheVariants as commands
use Rattle.replay.specs.Judging.{judge, verdict_from, refused_or}
use Rattle.replay.specs.Output.{Run, JournalsLead, IsOutput, IsRefusedOutput}
use Rattle.replay.specs.Answers.{IsLawfulToCheck, HasDone, HasRefused, HasLawful}
use Rattle.replay.specs.Totals.{IsTotalledOutput}
use Rattle.replay.proofs.Acted.{SecondFollowed}
use Rattle.replay.proofs.Lines.{accepted_in_time}
use Rattle.replay.proofs.Runs.{run_follows}
use Rattle.replay.proofs.SkippedTexts.{EndsWhole, text_ended, lawful_behind}
use Rattle.replay.proofs.Sound.{AreSound, first_sound, run_sound}
use Rattle.replay.proofs.Totalled.{totals_skipped, counted}

-- ---- all lines of a run can be printed
-- who is declared in each network
abbrev peers_by : Option Moment → ℕ → Option Neighbour
peers_by None k = None
peers_by (Some m) k = neighbours m.declared k

abbrev peers_of : Networks → Bool → ℕ → Option Neighbour
peers_of m false = neighbours m.first.declared
peers_of m true = peers_by m.second

-- those of each family can be, and so can all
all_printed : (peers : Bool → ℕ → Option Neighbour) (out : List FamilyLine) → AllByRecursion (IsPrinted (printing_in peers false)) (lines_in false out) → AllByRecursion (IsPrinted (printing_in peers true)) (lines_in true out)
    → AllByRecursion (IsPrintedLine peers) out
all_printed peers [] first second = tt
all_printed peers (l ∷ out) first second = by l.v6 refl (all_printed peers out) first second
  where
    by : (v6 : Bool) → l.v6 ≡ v6 → (AllByRecursion (IsPrinted (printing_in peers false)) (lines_in false out) → AllByRecursion (IsPrinted (printing_in peers true)) (lines_in true out) → AllByRecursion (IsPrintedLine peers) out)
        → AllByRecursion (IsPrinted (printing_in peers false)) (cons_option (cond v6 None (Some l.line)) (lines_in false out)) → AllByRecursion (IsPrinted (printing_in peers true)) (cons_option (cond v6 (Some l.line) None) (lines_in true out))
        → AllByRecursion (IsPrintedLine peers) (l ∷ out)
    by true is later first second = (subst (λ (v6 : Bool). IsPrinted (printing_in peers v6) l.line) (sym is) second.0, later first second.1)
    by false is later first second = (subst (λ (v6 : Bool). IsPrinted (printing_in peers v6) l.line) (sym is) first.0, later first.1 second)

as_family : (d : Declaration) (v6 : Bool) (said : List Line) → d.v6 ≡ v6 → ArePrinted d said → AllByRecursion (IsPrinted (record { v6 = v6; peers = neighbours d })) said
as_family d v6 said is printed = subst (λ (x : Bool). AllByRecursion (IsPrinted (record { v6 = x; peers = neighbours d })) said) is printed

second_printed : (first : Moment) (o o' : Option Moment) (own : List Line) → IsTiedTo first o' → SecondFollowed o own o' → AllByRecursion (IsPrinted (record { v6 = true; peers = peers_by o' })) own
second_printed first None None own tied f = subst (AllByRecursion (IsPrinted (record { v6 = true; peers = peers_by None }))) (sym f) tt
second_printed first (Some m) None own tied f = absurd f
second_printed first None (Some m') own tied f = as_family m'.declared true own tied.family f.1.printed
second_printed first (Some m) (Some m') own tied f = as_family m'.declared true own tied.family f.printed

run_printed : FirstStands → (end : Networks) (lines : List (List ℕ)) (out : List FamilyLine) → KnowTheSame end → Run 1 first_networks lines out end → AllByRecursion (IsPrintedLine (peers_of end)) out
run_printed stand end lines out same run =
    let f = run_follows 1 first_networks end lines out (stand false, tt) run in
    all_printed (peers_of end) out (as_family end.first.declared false (lines_in false out) same.family f.first.printed) (second_printed end.first None end.second (lines_in true out) same.tied f.second)

-- ---- its journals obey the rules
second_lawful : (o : Option Moment) (out : List FamilyLine) → OfSecond (λ n. Leads no_links (family_entries true out) (router_links n)) o → (o ≡ None → lines_in true out ≡ []) → IsLawful no_links (family_entries true out)
second_lawful None out lead none = subst (λ (ls : List Line). IsLawful no_links (entries_of ls)) (sym (none refl)) tt
second_lawful (Some m) out lead none = lead.lawful

run_lawful : (end : Networks) (out : List FamilyLine) → JournalsLead out end → AreLawfulLines out
run_lawful end out lead false = lead.each.0.lawful
run_lawful end out lead true = second_lawful end.second out lead.each.1 lead.none

-- ---- the number of a refused line
abbrev number_in : ℕ → Option (ℕ × Code) → ℕ
number_in other None = other
number_in other (Some refusal) = refusal.0

verdict_low : (n : ℕ) (d : Declaration) (lines : List (List ℕ)) (k : ℕ) (code : Code) → verdict_from n d lines ≡ Some (k, code) → n ≤ 4294967296 → k ≤ 4294967296
verdict_low n d [] k code e low = absurd (cc)
verdict_low n d (line ∷ lines) k code e low = elim (judge n d line) as (λ r. judge n d line ≡ r → refused_or n r (λ event. verdict_from (n + 1) (declared_behind d event) lines) ≡ Some (k, code) → k ≤ 4294967296) [
  | Err c ↦ λ at here. let same : n ≡ k = ap (number_in n) here in omega (arith, same, low)
  | Ok event ↦ λ at later. let other : n ≢ 4294967296 = accepted_in_time n d line event at in verdict_low (n + 1) (declared_behind d event) lines k code later (omega (arith, low, other))
] refl e

-- ---- outputs
module _ (stand : FirstStands) where
  end_sound : (lines : List (List ℕ)) (bytes : List ℕ) (quiet : Bool) → (o : IsOutput quiet lines bytes) → AreSound o.end
  end_sound lines bytes quiet o = run_sound 1 first_networks o.end lines o.out (first_sound stand) o.run

  end_printed : (lines : List (List ℕ)) (bytes : List ℕ) (quiet : Bool) → (o : IsOutput quiet lines bytes) → AllByRecursion (IsPrintedLine (peers_of o.end)) o.out
  end_printed lines bytes quiet o = run_printed stand o.end lines o.out (end_sound lines bytes quiet o).same o.run

  output_lawful : (quiet : Bool) (lines : List (List ℕ)) (bytes : List ℕ) → IsOutput quiet lines bytes → IsLawfulToCheck bytes
  output_lawful quiet lines bytes o = subst IsLawfulToCheck (sym o.text) (λ few.
      let is = printed_judged (peers_of o.end) quiet o.out (end_printed lines bytes quiet o) few (run_lawful o.end o.out o.lawful) in
      (is, λ ending ends. lawful_ends (text_of quiet o.out) ending is ends))

  refused_lawful : (quiet : Bool) (text bytes : List ℕ) → IsRefusedOutput quiet text bytes → IsLawfulToCheck bytes
  refused_lawful quiet text bytes r = subst IsLawfulToCheck (sym (r.written ∙ ap (λ (t : List ℕ). t ++ last) o.text)) (λ few.
      let is = refused_judged (peers_of o.end) quiet o.out r.number r.code (end_printed lines r.earlier quiet o) (omega (arith, low)) few (run_lawful o.end o.out o.lawful) in
      (is, λ ending ends. lawful_ends (text_of quiet o.out ++ last) ending is ends))
    where
      lines : List (List ℕ)
      lines = take (r.number - 1) (lines_of text)

      o : IsOutput quiet lines r.earlier
      o = r.output

      last : List ℕ
      last = line_text false (Refused r.number r.code)

      low : r.number ≤ 4294967296
      low = verdict_low 1 (no_declaration false) (lines_of text) r.number r.code r.refused (omega arith)

  -- with totals behind it
  totalled_lawful : (quiet : Bool) (text bytes : List ℕ) → IsTotalledOutput quiet text bytes → IsLawfulToCheck bytes
  totalled_lawful quiet text bytes t = subst IsLawfulToCheck (sym t.written) (λ few.
      let is = lawful_behind t.earlier t.totals ends (totals_skipped t.end.first t.turns t.totals counts t.counted) (λ fewer. (output_lawful quiet (lines_of text) t.earlier o fewer).0) few in
      (is, λ ending judged. lawful_ends (t.earlier ++ t.totals) ending is judged))
    where
      o : IsOutput quiet (lines_of text) t.earlier
      o = t.output.output

      ends : EndsWhole t.earlier
      ends = subst EndsWhole (sym o.text) (text_ended quiet o.out)

      counts : IsCounted t.end.first.declared.peers
      counts = subst (λ (m : Networks). IsCounted m.first.declared.peers) t.output.at (counted o.end.first.declared (end_sound (lines_of text) t.earlier quiet o).declared)

  -- ---- commands
  took_so : (left0 taken0 taken : Option (List ℕ)) (P Q : List ℕ → List ℕ → Type 0) → ((text bytes : List ℕ) → P text bytes → Q text bytes) → Took left0 taken0 taken P → Took left0 taken0 taken Q
  took_so left0 taken0 taken P Q so t = (t.0, t.1, t.2, t.3, so t.0 t.1 t.4)

  pub done_lawful : (command : Option Command) (left0 taken0 taken : Option (List ℕ)) → HasDone command left0 taken0 taken → HasLawful command left0 taken0 taken
  done_lawful (Some (commands.Run quiet)) left0 taken0 taken h = took_so left0 taken0 taken _ _ (λ text bytes is. (inl is, output_lawful quiet (lines_of text) bytes is)) h
  done_lawful (Some (commands.Gen seed count quiet)) left0 taken0 taken h = (h.0, h.1, (inl h.2, totalled_lawful quiet (text seed count) h.0 h.2))
  done_lawful (Some commands.Check) left0 taken0 taken h = tt
  done_lawful (Some (commands.Mrt as4)) left0 taken0 taken h = tt
  done_lawful None left0 taken0 taken h = tt

  pub refusal_lawful : (command : Option Command) (left0 taken0 taken : Option (List ℕ)) → HasRefused command left0 taken0 taken → HasLawful command left0 taken0 taken
  refusal_lawful (Some (commands.Run quiet)) left0 taken0 taken h = took_so left0 taken0 taken _ _ (λ text bytes is. (inr is, refused_lawful quiet text bytes is)) h
  refusal_lawful (Some (commands.Gen seed count quiet)) left0 taken0 taken h = (h.0, h.1, (inr h.2, refused_lawful quiet (text seed count) h.0 h.2))
  refusal_lawful (Some commands.Check) left0 taken0 taken h = tt
  refusal_lawful (Some (commands.Mrt as4)) left0 taken0 taken h = tt
  refusal_lawful None left0 taken0 taken h = tt
