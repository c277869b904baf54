-- How a run ends.
use Rattle.std.proofs.Common.{◌≡◌, ◌⊎◌, ⊎_elim, IfSome, ℕ, ◌<◌, Bool, true, false, List, [], ◌++◌, Option, Some, None, refl, sym, ap, ◌∙◌, inl, inr, subst, take, length, append_assoc}
use Rattle.std.proofs.lemmas.List.{append-nil}
use Rattle.std.proofs.Math.Seq.{take-append_seam, take-length}
use Rattle.std.specs.Io.KnownBytes.{Appends, Consumes, IsAtEnd, Keeps}
use Rattle.replay.proofs.LiveLines.{lives_through}
use Rattle.replay.proofs.HeardLemmas.{nobody_hears, nothing_sent}
use Rattle.replay.proofs.Journals.{nothing_said}
use Rattle.mrt_reader.specs.Sessions.{nothing_written}
use Rattle.mrt_reader.proofs.FileLemmas.{nothing_read}
use Rattle.capture_run.specs.Answers.{IsTextOfFirst}
use Rattle.command_line.specs.declared.words.Command.{Command}
use Rattle.command_line.specs.declared.words.Command.TheVariants.{Run, Gen, Check, Mrt}
use Rattle.event_gen.specs.Lines.{text}
use Rattle.replay.specs.Answers.{HasFirst}
use Rattle.replay.specs.declared.status.Status.{Status}
use Rattle.replay.specs.declared.status.Status.TheVariants as statuses
use Rattle.router.specs.Networks.{Networks, first_networks}
use Rattle.check_run.specs.Lines.{lines_of, lines_in}
use Rattle.replay.specs.Judging.{verdict, status_of}
use Rattle.replay.specs.Output.{AllStand, IsOutput, IsRefusedOutput, IsOutputOfFront, IsOutputOfEnded, IsFrontOfOutput}
use Rattle.replay.specs.Stream.{HasStepped, GoesOn, IsFrontAt}
use Rattle.check_run.specs.Runs.{Took, ReadsAndWrites}
use Rattle.replay.specs.Headline.{Progress}
use Rattle.replay.proofs.Runs.{verdict_accepted}
use Rattle.check_run.proofs.Pieces.{lines_behind}
use Rattle.check_run.proofs.Known.{appends_nothing, consumes_then, consumes_kept}

-- however the text goes on behind what was read
pub took_read : (left0 left taken0 taken : Option (List ℕ)) (read bytes : List ℕ) (P : List ℕ → List ℕ → Type 0) → Consumes left0 left read → Appends taken0 taken bytes → ((more : List ℕ) → P (read ++ more) bytes) → Took left0 taken0 taken P
took_read None left taken0 taken read bytes P c a h = (read ++ [], bytes, tt, a, h [])
took_read (Some text) None taken0 taken read bytes P c a h = absurd c
took_read (Some text) (Some more) taken0 taken read bytes P c a h = (read ++ more, bytes, sym c, a, h more)

-- all of the text was read
pub took_all : (left0 left taken0 taken : Option (List ℕ)) (read bytes : List ℕ) (P : List ℕ → List ℕ → Type 0) → Consumes left0 left read → IsAtEnd left → Appends taken0 taken bytes → P read bytes → Took left0 taken0 taken P
took_all None left taken0 taken read bytes P c e a h = (read, bytes, tt, a, h)
took_all (Some text) None taken0 taken read bytes P c e a h = absurd c
took_all (Some text) (Some more) taken0 taken read bytes P c e a h = (read, bytes, sym (c ∙ (ap (λ t. read ++ t) e ∙ append-nil read)), a, h)

-- what was stepped is an allowed output of some first lines, however the text goes on
pub stepped_front : (quiet : Bool) (read : List ℕ) (number : ℕ) (m : Networks) (turns : ℕ) (pending output : List ℕ) → HasStepped quiet read number m turns pending output → (more : List ℕ) → IsOutputOfFront quiet (read ++ more) output
stepped_front quiet read number m turns pending output s more =
    let front : take (length (lines_in s.done)) (lines_of (read ++ more)) ≡ lines_in s.done = ap (take (length (lines_in s.done))) (lines_behind read s.done pending more s.cut) ∙ take-append_seam (lines_in s.done) (lines_of (pending ++ more)) in
    record {
      count = length (lines_in s.done);
      output = subst (λ (ls : List (List ℕ)). IsOutput quiet ls output) (sym front) (record { out = s.out; end = m; run = s.run; lawful = s.lawful; live = lives_through (lines_in s.done) s.out m s.run; heard = s.heard; sent = s.sent; stands = s.stands; text = s.written });
    }

-- no memory for a piece that was read
pub took_front : (quiet : Bool) (left0 left now taken0 taken taken' : Option (List ℕ)) (number : ℕ) (m : Networks) (turns : ℕ) (pending piece : List ℕ) → Progress quiet left0 left taken0 taken number m turns pending → Consumes left now piece → taken' ≡ taken → Took left0 taken0 taken' (IsOutputOfFront quiet)
took_front quiet left0 left now taken0 taken taken' number m turns pending piece p c same =
    subst (λ (t : Option (List ℕ)). Took left0 taken0 t (IsOutputOfFront quiet)) (sym same)
    (took_read left0 now taken0 taken (p.read ++ piece) p.written (IsOutputOfFront quiet) (consumes_then left0 left now p.read piece p.consumed c) p.appended
    (λ more. subst (λ (t : List ℕ). IsOutputOfFront quiet t p.written) (sym (append_assoc p.read piece more)) (stepped_front quiet p.read number m turns pending p.written p.stepped (piece ++ more))))

-- a read that failed
pub took_ended : (quiet : Bool) (left0 left now taken0 taken : Option (List ℕ)) (number : ℕ) (m : Networks) (turns : ℕ) (pending : List ℕ) → length pending < 16386 → Progress quiet left0 left taken0 taken number m turns pending → Keeps left now → ReadsAndWrites left0 now taken0 taken (IsOutputOfEnded quiet)
took_ended quiet left0 left now taken0 taken number m turns pending short p same = (
  p.read,
  p.written,
  consumes_kept left0 left now p.read p.consumed same,
  p.appended,
  record {
    lines = lines_in p.stepped.done;
    ended = record { done = p.stepped.done; pending = pending; cut = p.stepped.cut; short = short; same = refl };
    output = record { out = p.stepped.out; end = m; run = p.stepped.run; lawful = p.stepped.lawful; live = lives_through (lines_in p.stepped.done) p.stepped.out m p.stepped.run; heard = p.stepped.heard; sent = p.stepped.sent; stands = p.stepped.stands; text = p.stepped.written };
  },
)

-- a front of what was to be written for lines that were stepped, or refused
pub written_front : (quiet accepted : Bool) (read taken : List ℕ) (piece before now more rest : List ℕ) (old new : ℕ × Networks × ℕ × List ℕ) → GoesOn quiet accepted old piece before now new → HasStepped quiet read old.0 old.1 old.2 old.3 (taken ++ before) → now ≡ more ++ rest → IsFrontAt quiet (read ++ piece) (taken ++ more)
written_front quiet true read taken piece before now more rest old new f s e = λ later. record {
  whole = taken ++ now;
  rest = rest;
  front = ap (λ t. taken ++ t) e ∙ sym (append_assoc taken more rest);
  allowed = inl (stepped_front quiet (read ++ piece) new.0 new.1 new.2 new.3 (taken ++ now) (f read taken s) later);
}
written_front quiet false read taken piece before now more rest old new f s e = λ later. record {
  whole = taken ++ now;
  rest = rest;
  front = ap (λ t. taken ++ t) e ∙ sym (append_assoc taken more rest);
  allowed = inr (f read taken s later);
}

-- an output of all lines is one of some first lines
pub whole_front : (quiet : Bool) (text bytes : List ℕ) → IsOutput quiet (lines_of text) bytes → IsOutputOfFront quiet text bytes
whole_front quiet text bytes s = record { count = length (lines_of text); output = subst (λ (ls : List (List ℕ)). IsOutput quiet ls bytes) (sym (take-length (lines_of text))) s }

-- a front of what was to be written for the whole text
front_output : (quiet : Bool) (text taken more rest out : List ℕ) → IsOutput quiet (lines_of text) (taken ++ out) → out ≡ more ++ rest → IsFrontOfOutput quiet text (taken ++ more)
front_output quiet text taken more rest out s e = record {
  whole = taken ++ out;
  rest = rest;
  front = ap (λ t. taken ++ t) e ∙ sym (append_assoc taken more rest);
  allowed = inl (whole_front quiet text (taken ++ out) s);
}

front_refused : (quiet : Bool) (text taken more rest out : List ℕ) → IsRefusedOutput quiet text (taken ++ out) → out ≡ more ++ rest → IsFrontOfOutput quiet text (taken ++ more)
front_refused quiet text taken more rest out s e = record {
  whole = taken ++ out;
  rest = rest;
  front = ap (λ t. taken ++ t) e ∙ sym (append_assoc taken more rest);
  allowed = inr s;
}

-- the same, by whether the last line was accepted
pub ended_front : (quiet accepted : Bool) (text taken more rest out : List ℕ) → (accepted ≡ true → IsOutput quiet (lines_of text) (taken ++ out)) → (accepted ≡ false → IsRefusedOutput quiet text (taken ++ out)) → out ≡ more ++ rest → IsFrontOfOutput quiet text (taken ++ more)
ended_front quiet true text taken more rest out f g e = front_output quiet text taken more rest out (f refl) e
ended_front quiet false text taken more rest out f g e = front_refused quiet text taken more rest out (g refl) e

-- what holds of the whole text that was read
pub of_all : (left0 left : Option (List ℕ)) (read : List ℕ) (P : List ℕ → Type 0) → Consumes left0 left read → IsAtEnd left → P read → IfSome left0 P
of_all None left read P c e h = tt
of_all (Some text) None read P c e h = absurd c
of_all (Some text) (Some more) read P c e h = subst P (sym (c ∙ (ap (λ t. read ++ t) e ∙ append-nil read))) h

-- what holds however the text goes on behind what was read
pub of_read : (left0 left : Option (List ℕ)) (read : List ℕ) (P : List ℕ → Type 0) → Consumes left0 left read → ((more : List ℕ) → P (read ++ more)) → IfSome left0 P
of_read None left read P c h = tt
of_read (Some text) None read P c h = absurd c
of_read (Some text) (Some more) read P c h = subst P (sym c) (h more)

accepted_status : (quiet : Bool) (text bytes : List ℕ) → IsOutput quiet (lines_of text) bytes → statuses.Ok ≡ status_of (verdict text)
accepted_status quiet text bytes o = ap status_of (sym (verdict_accepted 1 first_networks o.end (lines_of text) o.out o.run))

pub refused_status : (quiet : Bool) (text bytes : List ℕ) → IsRefusedOutput quiet text bytes → statuses.Refused ≡ status_of (verdict text)
refused_status quiet text bytes o = ap status_of (sym o.refused)

-- the end of the text, by its last line
pub ended_status : (quiet : Bool) (status : Status) (text written : List ℕ) → (status ≡ statuses.Ok → (more : List ℕ) × IsOutput quiet (lines_of text) (written ++ more)) → (status ≡ statuses.Refused → (more : List ℕ) × IsRefusedOutput quiet text (written ++ more)) → (status ≡ statuses.Ok) ⊎ (status ≡ statuses.Refused) → status ≡ status_of (verdict text)
ended_status quiet status text written f g = ⊎_elim (λ is. is ∙ accepted_status quiet text _ (f is).1) (λ is. is ∙ refused_status quiet text _ (g is).1)

-- the same, by what is known of the journal
pub stepped_as : (quiet other : Bool) (read : List ℕ) (number : ℕ) (m : Networks) (turns : ℕ) (pending output : List ℕ) → other ≡ quiet → HasStepped quiet read number m turns pending output → HasStepped other read number m turns pending output
stepped_as quiet other read number m turns pending output e s = subst (λ (q : Bool). HasStepped q read number m turns pending output) (sym e) s

-- no line was stepped
first_output : AllStand first_networks → (quiet : Bool) (text : List ℕ) → IsOutputOfFront quiet text []
first_output stands quiet text = record {
  count = 0;
  output = record {
    out = [];
    end = first_networks;
    run = (refl, refl);
    lawful = nothing_said;
    live = lives_through [] [] first_networks (refl, refl);
    heard = nobody_hears;
    sent = nothing_sent;
    stands = stands;
    text = refl;
  };
}

took_first : AllStand first_networks → (quiet : Bool) (left taken : Option (List ℕ)) → Took left taken taken (IsOutputOfFront quiet)
took_first stands quiet None taken = ([], [], tt, appends_nothing taken, first_output stands quiet [])
took_first stands quiet (Some text) taken = (text, [], refl, appends_nothing taken, first_output stands quiet text)

no_records : (as4 : Bool) (file : List ℕ) → IsTextOfFirst as4 file []
no_records as4 file = record { number = 0; written = nothing_written; front = []; rest = file; split = refl; read = nothing_read as4 }

took_none : (as4 : Bool) (left taken : Option (List ℕ)) → Took left taken taken (IsTextOfFirst as4)
took_none as4 None taken = ([], [], tt, appends_nothing taken, no_records as4 [])
took_none as4 (Some file) taken = (file, [], refl, appends_nothing taken, no_records as4 file)

-- there was no memory for the words
pub no_words : AllStand first_networks → (command : Option Command) (left taken : Option (List ℕ)) → HasFirst command left taken taken
no_words stands (Some (Run quiet)) left taken = took_first stands quiet left taken
no_words stands (Some (Gen seed count quiet)) left taken = ([], appends_nothing taken, first_output stands quiet (text seed count))
no_words stands (Some Check) left taken = refl
no_words stands (Some (Mrt as4)) left taken = took_none as4 left taken
no_words stands None left taken = refl
