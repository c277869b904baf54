-- Text that comes in pieces.
use Rattle.std.proofs.Common.{false, ◌≡◌, ℕ, ◌+◌, ◌-◌, ◌<◌, Bool, List, [], ◌∷◌, ◌++◌, length, take, Err, refl, sym, ap, ◌∙◌, arith, subst, append_assoc, length-append}
use Rattle.std.proofs.lemmas.List.{map-append, length-map}
use Rattle.std.proofs.Math.Seq.{take-append_seam}
use Rattle.std.proofs.lemmas.List.Concat.{flat_map-append}
use Rattle.std.specs.Str.Lines.{strip_carriage_return}
use Rattle.journal_text.specs.declared.line.Code.{Code}
use Rattle.journal_text.specs.declared.line.Code.TheVariants.{E1}
use Rattle.journal_text.specs.declared.line.Line.TheVariants.{Refused}
use Rattle.journal_text.specs.Texts.{line_text}
use Rattle.event_text.specs.Declarations.{no_declaration}
use Rattle.journal_laws.specs.FamilyLines.{FamilyLine, shown_in, text_of}
use Rattle.router.specs.Networks.{Networks, first_networks}
use Rattle.replay.proofs.HeardLemmas.{nobody_hears, nothing_sent}
use Rattle.replay.proofs.Journals.{nothing_said}
use Rattle.replay.specs.Judging.{judge, verdict_from}
use Rattle.check_run.specs.Lines.{IsPart, lines_of, lines_in}
use Rattle.replay.specs.Output.{Run, RunIn, AllStand, IsOutput, IsOutputTo, IsRefusedOutput}
use Rattle.replay.specs.Stream.{HasStepped, IsRefusedAt, StepsLine, RefusesLine}
use Rattle.check_run.proofs.Cuts.{goes_into}
use Rattle.check_run.proofs.Pieces.{cut_nothing, cut_part_more, cut_line_more, lines_behind, lines_then, pending_is_last, all_ended}
use Rattle.replay.proofs.Lines.{too_long}
use Rattle.replay.proofs.LiveLines.{lives_through}
use Rattle.replay.proofs.Runs.{run_more, run_in_more, verdict_behind}

-- nothing was read
pub stepped_nothing : (quiet : Bool) → AllStand first_networks → HasStepped quiet [] 1 first_networks 0 [] []
stepped_nothing quiet stands = record {
  done = [];
  cut = cut_nothing;
  count = refl;
  stands = stands;
  out = [];
  run = (refl, refl);
  taken = (refl, refl, refl);
  lawful = nothing_said;
  heard = nobody_hears;
  sent = nothing_sent;
  written = refl;
}

-- bytes of a line
pub stepped_part : (quiet : Bool) (read : List ℕ) (n : ℕ) (m : Networks) (turns : ℕ) (pending output part : List ℕ) → IsPart part → HasStepped quiet read n m turns pending output → HasStepped quiet (read ++ part) n m turns (pending ++ part) output
stepped_part quiet read n m turns pending output part other s = record {
  done = s.done;
  cut = cut_part_more read s.done pending part other s.cut;
  count = s.count;
  stands = s.stands;
  out = s.out;
  run = s.run;
  taken = s.taken;
  lawful = s.lawful;
  heard = s.heard;
  sent = s.sent;
  written = s.written;
}

-- what was written, and more of it
written_more : (quiet : Bool) (out said : List FamilyLine) (taken before now : List ℕ) → taken ++ before ≡ text_of quiet out → now ≡ before ++ text_of quiet said → taken ++ now ≡ text_of quiet (out ++ said)
written_more quiet out said taken before now e f =
    ap (λ t. taken ++ t) f ∙ (sym (append_assoc taken before (text_of quiet said)) ∙ (ap (λ t. t ++ text_of quiet said) e ∙ sym (flat_map-append (shown_in quiet) out said)))

-- one more line was stepped
run_line : (quiet : Bool) (n : ℕ) (m new : Networks) (more : ℕ) (done : List (List ℕ)) (out : List FamilyLine) (line before now : List ℕ) → n ≡ length done + 1 → Run 1 first_networks (lines_in done) out m → (l : StepsLine quiet n m line before now new more) → Run 1 first_networks (lines_in done ++ line ∷ []) (out ++ l.said) new
run_line quiet n m new more done out line before now count run l =
    run_more 1 n first_networks m new (lines_in done) out line l.said (omega (arith, count, length-map done strip_carriage_return)) run l.step

run_line_in : (quiet : Bool) (n : ℕ) (m new : Networks) (turns more : ℕ) (done : List (List ℕ)) (out : List FamilyLine) (line before now : List ℕ) → n ≡ length done + 1 → RunIn 1 first_networks (lines_in done) out m turns → (l : StepsLine quiet n m line before now new more) → RunIn 1 first_networks (lines_in done ++ line ∷ []) (out ++ l.said) new (turns + more)
run_line_in quiet n m new turns more done out line before now count run l =
    run_in_more 1 n first_networks m new turns more (lines_in done) out line l.said (omega (arith, count, length-map done strip_carriage_return)) run l.step l.took

-- the end of a line that is accepted
pub stepped_line : (quiet : Bool) (read taken : List ℕ) (n : ℕ) (m new : Networks) (turns more : ℕ) (pending before now : List ℕ) → HasStepped quiet read n m turns pending (taken ++ before) → StepsLine quiet n m (strip_carriage_return pending) before now new more → HasStepped quiet (read ++ 10 ∷ []) (n + 1) new (turns + more) [] (taken ++ now)
stepped_line quiet read taken n m new turns more pending before now s l = record {
  done = s.done ++ pending ∷ [];
  cut = cut_line_more read s.done pending s.cut;
  count = omega (arith, s.count, length-append s.done (pending ∷ []));
  stands = l.stands;
  out = s.out ++ l.said;
  run = subst (λ (ls : List (List ℕ)). Run 1 first_networks ls (s.out ++ l.said) new) (sym (map-append strip_carriage_return s.done (pending ∷ []))) (run_line quiet n m new more s.done s.out (strip_carriage_return pending) before now s.count s.run l);
  taken = subst (λ (ls : List (List ℕ)). RunIn 1 first_networks ls (s.out ++ l.said) new (turns + more)) (sym (map-append strip_carriage_return s.done (pending ∷ []))) (run_line_in quiet n m new turns more s.done s.out (strip_carriage_return pending) before now s.count s.taken l);
  lawful = l.leads s.out s.lawful;
  heard = l.hears s.out s.lawful s.heard;
  sent = l.step.sent;
  written = written_more quiet s.out l.said taken before now s.written l.written;
}

-- what is written of a text whose next line is refused
refused_next : (quiet : Bool) (text read taken : List ℕ) (n : ℕ) (m : Networks) (turns : ℕ) (pending before now line : List ℕ) (more : List (List ℕ)) (code : Code) → (s : HasStepped quiet read n m turns pending (taken ++ before)) → lines_of text ≡ lines_in s.done ++ line ∷ more → judge n m.first.declared line ≡ Err code → now ≡ before ++ line_text false (Refused n code) → IsRefusedOutput quiet text (taken ++ now)
refused_next quiet text read taken n m turns pending before now line more code s lines refused written =
    let number : n - 1 ≡ length (lines_in s.done) = omega (arith, s.count, length-map s.done strip_carriage_return) in
    let front : take (n - 1) (lines_of text) ≡ lines_in s.done = ap (λ k. take k (lines_of text)) number ∙ (ap (take (length (lines_in s.done))) lines ∙ take-append_seam (lines_in s.done) (line ∷ more)) in
    record {
      number = n;
      code = code;
      refused = ap (verdict_from 1 (no_declaration false)) lines ∙ verdict_behind 1 n first_networks m (lines_in s.done) s.out line more code (omega (arith, s.count, length-map s.done strip_carriage_return)) s.run refused;
      earlier = taken ++ before;
      output = subst (λ (ls : List (List ℕ)). IsOutput quiet ls (taken ++ before)) (sym front) (record { out = s.out; end = m; run = s.run; lawful = s.lawful; live = lives_through (lines_in s.done) s.out m s.run; heard = s.heard; sent = s.sent; stands = s.stands; text = s.written });
      written = ap (λ t. taken ++ t) written ∙ sym (append_assoc taken before (line_text false (Refused n code)));
    }

-- the end of a line that is refused
pub refused_line : (quiet : Bool) (read taken : List ℕ) (n : ℕ) (m : Networks) (turns : ℕ) (pending before now : List ℕ) → HasStepped quiet read n m turns pending (taken ++ before) → RefusesLine n m (strip_carriage_return pending) before now → IsRefusedAt quiet (read ++ 10 ∷ []) (taken ++ now)
refused_line quiet read taken n m turns pending before now s l = λ more.
    refused_next quiet ((read ++ 10 ∷ []) ++ more) read taken n m turns pending before now (strip_carriage_return pending) (lines_of more) l.code s
    (lines_then read s.done pending more s.cut) l.refused l.written

-- a line that is longer than it may be
pub refused_long : (quiet : Bool) (read taken : List ℕ) (n : ℕ) (m : Networks) (turns : ℕ) (pending before now part : List ℕ) → IsPart part → 16385 < length pending + length part → HasStepped quiet read n m turns pending (taken ++ before) → now ≡ before ++ line_text false (Refused n E1) → IsRefusedAt quiet (read ++ part) (taken ++ now)
refused_long quiet read taken n m turns pending before now part other long was e = λ more.
    let s = stepped_part quiet read n m turns pending (taken ++ before) part other was in
    let g = goes_into (pending ++ part) more (omega (arith, length-append pending part)) s.cut.part in
    refused_next quiet ((read ++ part) ++ more) (read ++ part) taken n m turns (pending ++ part) before now g.first g.others E1 s
    (lines_behind (read ++ part) s.done (pending ++ part) more s.cut ∙ ap (λ t. lines_in s.done ++ t) g.lines)
    (too_long n m.first.declared g.first (omega (arith, length-append pending part, g.long))) e

-- the input ends with a whole line
pub ends_clean : (quiet : Bool) (read : List ℕ) (n : ℕ) (m : Networks) (turns : ℕ) (pending output : List ℕ) → length pending ≡ 0 → HasStepped quiet read n m turns pending output → IsOutputTo quiet (lines_of read) output m turns
ends_clean quiet read n m turns pending output none s =
    let run : Run 1 first_networks (lines_of read) s.out m = subst (λ (ls : List (List ℕ)). Run 1 first_networks ls s.out m) (sym (all_ended read s.done pending none s.cut)) s.run in record {
      output = record { out = s.out; end = m; run = run; lawful = s.lawful; live = lives_through (lines_of read) s.out m run; heard = s.heard; sent = s.sent; stands = s.stands; text = s.written };
      at = refl;
      taken = subst (λ (ls : List (List ℕ)). RunIn 1 first_networks ls s.out m turns) (sym (all_ended read s.done pending none s.cut)) s.taken;
    }

-- the last line has no LF, and is accepted
pub ends_line : (quiet : Bool) (read taken : List ℕ) (n : ℕ) (m new : Networks) (turns more : ℕ) (pending before now : List ℕ) → 0 < length pending → HasStepped quiet read n m turns pending (taken ++ before) → StepsLine quiet n m pending before now new more → IsOutputTo quiet (lines_of read) (taken ++ now) new (turns + more)
ends_line quiet read taken n m new turns more pending before now some s l =
    let run : Run 1 first_networks (lines_of read) (s.out ++ l.said) new = subst (λ (ls : List (List ℕ)). Run 1 first_networks ls (s.out ++ l.said) new) (sym (pending_is_last read s.done pending some s.cut)) (run_line quiet n m new more s.done s.out pending before now s.count s.run l) in record {
      output = record {
        out = s.out ++ l.said;
        end = new;
        run = run;
        lawful = l.leads s.out s.lawful;
        live = lives_through (lines_of read) (s.out ++ l.said) new run;
        heard = l.hears s.out s.lawful s.heard;
        sent = l.step.sent;
        stands = l.stands;
        text = written_more quiet s.out l.said taken before now s.written l.written;
      };
      at = refl;
      taken = subst (λ (ls : List (List ℕ)). RunIn 1 first_networks ls (s.out ++ l.said) new (turns + more)) (sym (pending_is_last read s.done pending some s.cut)) (run_line_in quiet n m new turns more s.done s.out pending before now s.count s.taken l);
    }

-- the last line has no LF, and is refused
pub ends_refused : (quiet : Bool) (read taken : List ℕ) (n : ℕ) (m : Networks) (turns : ℕ) (pending before now : List ℕ) → 0 < length pending → HasStepped quiet read n m turns pending (taken ++ before) → RefusesLine n m pending before now → IsRefusedOutput quiet read (taken ++ now)
ends_refused quiet read taken n m turns pending before now some s l =
    refused_next quiet read read taken n m turns pending before now pending [] l.code s (pending_is_last read s.done pending some s.cut) l.refused l.written
