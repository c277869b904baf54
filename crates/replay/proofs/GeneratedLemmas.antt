-- How a run ends where totals are asked for, and one of generated events.
use Rattle.std.proofs.Common.{◌≡◌, ℕ, Bool, true, false, List, ◌++◌, length, take, Option, Some, inl, inr, ⊎_elim, refl, sym, ap, subst, ◌∙◌, append_assoc}
use Rattle.std.specs.Io.KnownBytes.{Appends}
use Rattle.check_run.specs.Lines.{lines_of, lines_in}
use Rattle.check_run.proofs.Pieces.{lines_behind}
use Rattle.std.proofs.Math.Seq.{take-append_seam}
use Rattle.check_run.specs.Runs.{Took, Writes, ReadsAndWrites, IsFrontOf}
use Rattle.check_run.proofs.Known.{appends_then}
use Rattle.router.specs.Networks.{Networks}
use Rattle.replay.specs.Output.{IsOutput, IsOutputTo, IsOutputOfFront, IsOutputOfEnded, IsFrontOfOutput}
use Rattle.replay.specs.Totals.{AreTotals, IsWholeOutput, IsFrontOfWhole}
use Rattle.replay.proofs.Endings.{whole_front}

-- of a source that tells its text
pub of_told : (text : List ℕ) (before now : Option (List ℕ)) (P : List ℕ → List ℕ → Type 0) → Took (Some text) before now P → Writes before now (P text)
of_told text before now P t = (t.1, t.3, subst (λ (x : List ℕ). P x t.1) t.2 t.4)

-- without totals
pub plain_whole : (totalled quiet : Bool) (left a b : Option (List ℕ)) (m : Networks) (turns : ℕ) → totalled ≡ false → Took left a b (λ text bytes. IsOutputTo quiet (lines_of text) bytes m turns) → Took left a b (IsWholeOutput totalled quiet)
plain_whole totalled quiet left a b m turns none f = subst (λ (t : Bool). Took left a b (IsWholeOutput t quiet)) (sym none) (f.0, f.1, f.2, f.3, f.4.output)

pub plain_front : (totalled quiet : Bool) (left a b : Option (List ℕ)) → totalled ≡ false → Took left a b (IsFrontOfOutput quiet) → Took left a b (IsFrontOfWhole totalled quiet)
plain_front totalled quiet left a b none f = subst (λ (t : Bool). Took left a b (IsFrontOfWhole t quiet)) (sym none) f

-- the output of all events, and the totals behind it
pub totalled_whole : (totalled quiet : Bool) (left a b c : Option (List ℕ)) (m : Networks) (turns : ℕ) → totalled ≡ true → Took left a b (λ text bytes. IsOutputTo quiet (lines_of text) bytes m turns) → Writes b c (AreTotals m.first turns) → Took left a c (IsWholeOutput totalled quiet)
totalled_whole totalled quiet left a b c m turns asked f g = subst (λ (t : Bool). Took left a c (IsWholeOutput t quiet)) (sym asked) (
  f.0,
  f.1 ++ g.0,
  f.2,
  appends_then a b c f.1 g.0 f.3 g.1,
  record { end = m; turns = turns; earlier = f.1; output = f.4; totals = g.0; counted = g.2; written = refl },
)

-- no memory for the totals
pub untotalled : (quiet : Bool) (left a b c : Option (List ℕ)) (m : Networks) (turns : ℕ) → Took left a b (λ text bytes. IsOutputTo quiet (lines_of text) bytes m turns) → c ≡ b → Took left a c (IsOutputOfFront quiet)
untotalled quiet left a b c m turns f same = (f.0, f.1, f.2, subst (λ (t : Option (List ℕ)). Appends a t f.1) (sym same) f.3, whole_front quiet f.0 f.1 f.4.output)

-- a write of the totals that failed
pub totalled_front : (totalled quiet : Bool) (left a b c : Option (List ℕ)) (m : Networks) (turns : ℕ) → totalled ≡ true → Took left a b (λ text bytes. IsOutputTo quiet (lines_of text) bytes m turns)
    → Writes b c (λ more. (totals : List ℕ) × AreTotals m.first turns totals × IsFrontOf totals more) → Took left a c (IsFrontOfWhole totalled quiet)
totalled_front totalled quiet left a b c m turns asked f g = subst (λ (t : Bool). Took left a c (IsFrontOfWhole t quiet)) (sym asked)
    (let totals = g.2.0 in
    let front = g.2.2 in (
      f.0,
      f.1 ++ g.0,
      f.2,
      appends_then a b c f.1 g.0 f.3 g.1,
      record {
        whole = f.1 ++ totals;
        rest = front.0;
        front = ap (λ t. f.1 ++ t) front.1 ∙ sym (append_assoc f.1 g.0 front.0);
        allowed = inr (inr (record { end = m; turns = turns; earlier = f.1; output = f.4; totals = totals; counted = g.2.1; written = refl }));
      },
    ))

-- a write of the output that failed, whether totals are asked for or not
pub front_of_run : (totalled quiet : Bool) (left a c : Option (List ℕ)) → Took left a c (IsFrontOfOutput quiet) → Took left a c (IsFrontOfWhole totalled quiet)
front_of_run false quiet left a c f = f
front_of_run true quiet left a c f = (f.0, f.1, f.2, f.3, record { whole = f.4.whole; rest = f.4.rest; front = f.4.front; allowed = ⊎_elim inl (λ r. inr (inl r)) f.4.allowed })

-- an output of the lines that have ended is one of some first lines, however the text goes on
front_of_ended : (quiet : Bool) (read more bytes : List ℕ) → IsOutputOfEnded quiet read bytes → IsOutputOfFront quiet (read ++ more) bytes
front_of_ended quiet read more bytes o =
    let e = o.ended in
    let front : take (length (lines_in e.done)) (lines_of (read ++ more)) ≡ lines_in e.done = ap (take (length (lines_in e.done))) (lines_behind read e.done e.pending more e.cut) ∙ take-append_seam (lines_in e.done) (lines_of (e.pending ++ more)) in
    record { count = length (lines_in e.done); output = subst (λ (ls : List (List ℕ)). IsOutput quiet ls bytes) (e.same ∙ sym front) o.output }

-- no memory for the next lines of the source
pub first_lines : (quiet : Bool) (text left : List ℕ) (a c : Option (List ℕ)) → ReadsAndWrites (Some text) (Some left) a c (IsOutputOfEnded quiet) → Writes a c (IsOutputOfFront quiet text)
first_lines quiet text left a c r = (r.1, r.3, subst (λ (t : List ℕ). IsOutputOfFront quiet t r.1) (sym r.2) (front_of_ended quiet r.0 left r.1 r.4))
