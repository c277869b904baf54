-- Records that were read, and lines of which some aren't written yet.
use Rattle.std.proofs.Common.{◌≡◌, ⊎_elim, ℕ, ◌+◌, Bool, List, [], ◌++◌, Option, Some, None, refl, sym, ap, ◌∙◌, subst, inl, inr, append_assoc}
use Rattle.std.proofs.lemmas.List.{append-nil}
use Rattle.std.proofs.KnownBytes.{Appends-nil, Appends-trans, Consumes-trans}
use Rattle.std.specs.Io.KnownBytes.{Appends, Consumes, IsAtEnd, prepend_known}
use Rattle.mrt_reader.specs.Lines.{text_of, refused_text}
use Rattle.mrt_reader.specs.Sessions.{Written, nothing_written, closing}
use Rattle.mrt_reader.specs.Files.{HasRead, IsTextOf, IsRefusal}
use Rattle.mrt_reader.specs.Sources.{Reading, left_by, MayBe, ReadsOne, ReadsNone, Refuses, Gives}
use Rattle.mrt_reader.specs.Sources as sources
use Rattle.mrt_reader.specs.declared.answer.Code.{Code}
use Rattle.mrt_reader.specs.declared.answer.Next.{Next}
use Rattle.mrt_reader.specs.declared.answer.Next.TheVariants as answers
use Rattle.mrt_reader.proofs.FileLemmas.{nothing_read}
use Rattle.check_run.specs.Runs.{Took, Writes, ReadsAndWrites, IsFrontOf}
use Rattle.check_run.specs.Runs as runs
use Rattle.capture_run.specs.Answers.{IsTextOfFirst, IsRefusedText, IsAllowedText, IsFrontOfText, HasEnded}
use Rattle.capture_run.specs.Progress.{Progress, Flushes, Finishes}
use Rattle.capture_run.specs.declared.ending.Ending.{Ending}
use Rattle.capture_run.specs.declared.ending.Ending.TheVariants as endings

-- ---- the file that a source has

-- what was read, and this behind it
whole_file : (a b : Option (List ℕ)) (read rest : List ℕ) → Consumes a b read → MayBe b rest → runs.IsTextOf a (read ++ rest)
whole_file None b read rest c m = tt
whole_file (Some a) None read rest c m = absurd c
whole_file (Some a) (Some b) read rest c m = ap (λ t. read ++ t) m ∙ sym c

nothing_left : (a : Option (List ℕ)) → IsAtEnd a → MayBe a []
nothing_left None e = tt
nothing_left (Some a) e = sym e

some_rest : (a : Option (List ℕ)) → (rest : List ℕ) × MayBe a rest
some_rest None = ([], tt)
some_rest (Some a) = (a, refl)

begun_from : (a : Option (List ℕ)) → Consumes a (prepend_known [] a) []
begun_from None = tt
begun_from (Some a) = refl

drained_to : (a b : Option (List ℕ)) (unread read : List ℕ) → unread ≡ [] → Consumes a (prepend_known unread b) read → Consumes a b read
drained_to None b unread read none c = tt
drained_to (Some a) None unread read none c = absurd c
drained_to (Some a) (Some b) unread read none c = c ∙ ap (λ t. read ++ (t ++ b)) none

-- ---- records that are read, and lines that are written

nothing_first : (as4 : Bool) → IsTextOfFirst as4 [] []
nothing_first as4 = record { number = 0; written = nothing_written; front = []; rest = []; split = refl; read = nothing_read as4 }

pub begins : (left taken : Option (List ℕ)) (r : Reading) (unwritten : List ℕ) → r.number ≡ 0 → r.written ≡ nothing_written → r.unread ≡ [] → unwritten ≡ [] → Progress r.as4 left left taken taken r unwritten
begins left taken r unwritten zero nothing none empty = record {
  same = refl;
  read = [];
  consumed = subst (λ (u : List ℕ). Consumes left (prepend_known u left) []) (sym none) (begun_from left);
  written = [];
  appended = Appends-nil taken;
  lines = subst (λ (n : ℕ). HasRead r.as4 [] unwritten n r.written) (sym zero)
      (subst (λ (w : Written). HasRead r.as4 [] unwritten 0 w) (sym nothing)
      (subst (λ (t : List ℕ). HasRead r.as4 [] t 0 nothing_written) (sym empty) (nothing_read r.as4)));
  first = nothing_first r.as4;
}

pub makes_way : (as4 : Bool) (left0 left taken0 a b : Option (List ℕ)) (r s : Reading) (old new : List ℕ) → s ≡ r → Progress as4 left0 left taken0 a r old → Flushes a b old new → Progress as4 left0 left taken0 b s new
makes_way as4 left0 left taken0 a b r s old new same p flushes =
    subst (λ (x : Reading). Progress as4 left0 left taken0 b x new) (sym same) (⊎_elim all nothing flushes)
  where
    all : Appends a b old × (new ≡ []) → Progress as4 left0 left taken0 b r new
    all f =
        let lines : HasRead as4 p.read (p.written ++ old) r.number r.written = p.lines in
        record {
          same = p.same;
          read = p.read;
          consumed = p.consumed;
          written = p.written ++ old;
          appended = Appends-trans taken0 a b p.written old p.appended f.0;
          lines = subst (λ (t : List ℕ). HasRead as4 p.read t r.number r.written) (sym (append-nil (p.written ++ old)) ∙ ap (λ t. (p.written ++ old) ++ t) (sym f.1)) lines;
          first = record { number = r.number; written = r.written; front = p.read; rest = []; split = sym (append-nil p.read); read = lines };
        }

    nothing : Appends a b [] × (new ≡ old) → Progress as4 left0 left taken0 b r new
    nothing f = record {
      same = p.same;
      read = p.read;
      consumed = p.consumed;
      written = p.written;
      appended = subst (λ (t : List ℕ). Appends taken0 b t) (append-nil p.written) (Appends-trans taken0 a b p.written [] p.appended f.0);
      lines = subst (λ (t : List ℕ). HasRead as4 p.read (p.written ++ t) r.number r.written) (sym f.1) p.lines;
      first = p.first;
    }

first_of_more : (as4 : Bool) (read octets written : List ℕ) → IsTextOfFirst as4 read written → IsTextOfFirst as4 (read ++ octets) written
first_of_more as4 read octets written f = record {
  number = f.number;
  written = f.written;
  front = f.front;
  rest = f.rest ++ octets;
  split = ap (λ t. t ++ octets) f.split ∙ append_assoc f.front f.rest octets;
  read = f.read;
}

pub one_more : (as4 : Bool) (left0 left now taken0 taken : Option (List ℕ)) (r s : Reading) (old new text : List ℕ) → Progress as4 left0 left taken0 taken r old → ReadsOne r left text s now → new ≡ old ++ text → Progress as4 left0 now taken0 taken s new
one_more as4 left0 left now taken0 taken r s old new text p one more =
    let was : HasRead r.as4 p.read (p.written ++ old) r.number r.written = subst (λ (b : Bool). HasRead b p.read (p.written ++ old) r.number r.written) (sym p.same) p.lines in
    let lines : HasRead r.as4 (p.read ++ one.octets) ((p.written ++ old) ++ text) s.number s.written = one.goes_on p.read (p.written ++ old) was in
    record {
      same = one.same ∙ p.same;
      read = p.read ++ one.octets;
      consumed = Consumes-trans left0 (left_by r left) (left_by s now) p.read one.octets p.consumed one.consumed;
      written = p.written;
      appended = p.appended;
      lines = subst (λ (t : List ℕ). HasRead as4 (p.read ++ one.octets) t s.number s.written) (append_assoc p.written old text ∙ ap (λ t. p.written ++ t) (sym more))
          (subst (λ (b : Bool). HasRead b (p.read ++ one.octets) ((p.written ++ old) ++ text) s.number s.written) p.same lines);
      first = first_of_more as4 p.read one.octets p.written p.first;
    }

-- ---- what is answered of a record

pub gives_one : (r s : Reading) (left now : Option (List ℕ)) (next : Next) (text : List ℕ) → next ≡ answers.Record → Gives r left next text s now → ReadsOne r left text s now
gives_one r s left now next text is gives = subst (λ (n : Next). Gives r left n text s now) is gives

pub gives_end : (r s : Reading) (left now : Option (List ℕ)) (next : Next) (text : List ℕ) → next ≡ answers.End → Gives r left next text s now → sources.Ends r left text s now
gives_end r s left now next text is gives = subst (λ (n : Next). Gives r left n text s now) is gives

pub gives_refusal : (r s : Reading) (left now : Option (List ℕ)) (next : Next) (number : ℕ) (code : Code) (text : List ℕ) → next ≡ answers.Refused number code → Gives r left next text s now → Refuses r left number code text
gives_refusal r s left now next number code text is gives = subst (λ (n : Next). Gives r left n text s now) is gives

-- ---- what may be written

-- what was written, and what isn't yet, is so for a file that the source may have
pub record Stands (left0 taken0 taken : Option (List ℕ)) (unwritten : List ℕ) (P : List ℕ → List ℕ → Type 0) : Type 0 where
  pub file : List ℕ
  pub may_be : runs.IsTextOf left0 file
  pub written : List ℕ
  pub appended : Appends taken0 taken written
  pub is : P file (written ++ unwritten)

written_all : (left0 taken0 a b : Option (List ℕ)) (unwritten : List ℕ) (P : List ℕ → List ℕ → Type 0) → Stands left0 taken0 a unwritten P → Appends a b unwritten → Took left0 taken0 b P
written_all left0 taken0 a b unwritten P s f = (s.file, s.written ++ unwritten, s.may_be, Appends-trans taken0 a b s.written unwritten s.appended f, s.is)

written_front : (as4 : Bool) (left0 taken0 a b : Option (List ℕ)) (unwritten : List ℕ) → Stands left0 taken0 a unwritten (IsAllowedText as4) → Writes a b (IsFrontOf unwritten) → Took left0 taken0 b (IsFrontOfText as4)
written_front as4 left0 taken0 a b unwritten s f =
    let rest = f.2.0 in
    let front : s.written ++ unwritten ≡ (s.written ++ f.0) ++ rest = ap (λ t. s.written ++ t) f.2.1 ∙ sym (append_assoc s.written f.0 rest) in
    (s.file, s.written ++ f.0, s.may_be, Appends-trans taken0 a b s.written f.0 s.appended f.1, (s.written ++ unwritten, (rest, front), s.is))

-- the lines of the records that were read
lines_so_far : (as4 : Bool) (left0 left taken0 taken : Option (List ℕ)) (r : Reading) (unwritten : List ℕ) → Progress as4 left0 left taken0 taken r unwritten → Stands left0 taken0 taken unwritten (IsTextOfFirst as4)
lines_so_far as4 left0 left taken0 taken r unwritten p =
    let some = some_rest (left_by r left) in
    record {
      file = p.read ++ some.0;
      may_be = whole_file left0 (left_by r left) p.read some.0 p.consumed some.1;
      written = p.written;
      appended = p.appended;
      is = record { number = r.number; written = r.written; front = p.read; rest = some.0; split = refl; read = p.lines };
    }

allowed_first : (as4 : Bool) (left0 taken0 taken : Option (List ℕ)) (unwritten : List ℕ) → Stands left0 taken0 taken unwritten (IsTextOfFirst as4) → Stands left0 taken0 taken unwritten (IsAllowedText as4)
allowed_first as4 left0 taken0 taken unwritten s = record { file = s.file; may_be = s.may_be; written = s.written; appended = s.appended; is = inl s.is }

allowed_end : (as4 : Bool) (left0 taken0 taken : Option (List ℕ)) (unwritten : List ℕ) (end : Option Code) → Stands left0 taken0 taken unwritten (λ file text. IsTextOf as4 file text end) → Stands left0 taken0 taken unwritten (IsAllowedText as4)
allowed_end as4 left0 taken0 taken unwritten end s = record { file = s.file; may_be = s.may_be; written = s.written; appended = s.appended; is = inr (end, s.is) }

-- the whole text at the end
text_at_end : (as4 : Bool) (left0 left now taken0 taken : Option (List ℕ)) (r s : Reading) (old new text : List ℕ) → Progress as4 left0 left taken0 taken r old → sources.Ends r left text s now → new ≡ old ++ text → Stands left0 taken0 taken new (λ file text. IsTextOf as4 file text None)
text_at_end as4 left0 left now taken0 taken r s old new text p e more =
    let consumed : Consumes left0 (left_by s now) (p.read ++ []) = Consumes-trans left0 (left_by r left) (left_by s now) p.read [] p.consumed e.consumed in
    record {
      file = (p.read ++ []) ++ [];
      may_be = whole_file left0 (left_by s now) (p.read ++ []) [] consumed (nothing_left (left_by s now) e.over);
      written = p.written;
      appended = p.appended;
      is = record {
        number = r.number;
        written = r.written;
        front = p.read;
        rest = [];
        lines = p.written ++ old;
        split = append-nil (p.read ++ []);
        read = p.lines;
        ends = refl;
        said = ap (λ t. p.written ++ t) (more ∙ ap (λ t. old ++ t) e.closed) ∙ sym (append_assoc p.written old (text_of (closing r.written)));
      };
    }

-- and at a record where the file is refused
text_at_refusal : (as4 : Bool) (left0 left taken0 taken : Option (List ℕ)) (r : Reading) (number : ℕ) (code : Code) (old new text : List ℕ) → Progress as4 left0 left taken0 taken r old → Refuses r left number code text → new ≡ old ++ text → Stands left0 taken0 taken new (λ file text. IsTextOf as4 file text (Some code))
text_at_refusal as4 left0 left taken0 taken r number code old new text p f more = record {
  file = p.read ++ f.rest;
  may_be = whole_file left0 (left_by r left) p.read f.rest p.consumed f.may_be;
  written = p.written;
  appended = p.appended;
  is = record {
    number = r.number;
    written = r.written;
    front = p.read;
    rest = f.rest;
    lines = p.written ++ old;
    split = refl;
    read = p.lines;
    ends = subst (λ (b : Bool). IsRefusal b r.number f.rest code) p.same f.refused;
    said = ap (λ t. p.written ++ t) (more ∙ ap (λ t. old ++ t) (f.said ∙ ap (λ n. refused_text n code) f.at)) ∙ sym (append_assoc p.written old (refused_text (r.number + 1) code));
  };
}

-- ---- how it ends

finished : (as4 : Bool) (left0 left taken0 a b : Option (List ℕ)) (unwritten : List ℕ) (ending result : Ending) → Finishes a b unwritten ending result → Stands left0 taken0 a unwritten (IsAllowedText as4) → (Appends a b unwritten → HasEnded as4 left0 left taken0 b ending) → HasEnded as4 left0 left taken0 b result
finished as4 left0 left taken0 a b unwritten ending result finishes s all = ⊎_elim done faulty finishes
  where
    done : (result ≡ ending) × Appends a b unwritten → HasEnded as4 left0 left taken0 b result
    done f = subst (λ (e : Ending). HasEnded as4 left0 left taken0 b e) (sym f.0) (all f.1)

    faulty : (result ≡ endings.WriteFault) × Writes a b (IsFrontOf unwritten) → HasEnded as4 left0 left taken0 b result
    faulty f = subst (λ (e : Ending). HasEnded as4 left0 left taken0 b e) (sym f.0) (written_front as4 left0 taken0 a b unwritten s f.1)

pub ends_done : (as4 : Bool) (left0 left now taken0 a b : Option (List ℕ)) (r s : Reading) (old new text : List ℕ) (result : Ending) → Progress as4 left0 left taken0 a r old → sources.Ends r left text s now → new ≡ old ++ text → Finishes a b new endings.Done result → HasEnded as4 left0 now taken0 b result
ends_done as4 left0 left now taken0 a b r s old new text result p e more finishes =
    let whole = text_at_end as4 left0 left now taken0 a r s old new text p e more in
    finished as4 left0 now taken0 a b new endings.Done result finishes (allowed_end as4 left0 taken0 a new None whole)
    (λ f. (written_all left0 taken0 a b new (λ file text. IsTextOf as4 file text None) whole f, e.read))

pub ends_refused : (as4 : Bool) (left0 left now taken0 a b : Option (List ℕ)) (r : Reading) (number : ℕ) (code : Code) (old new text : List ℕ) (result : Ending) → Progress as4 left0 left taken0 a r old → Refuses r left number code text → new ≡ old ++ text → Finishes a b new endings.Refused result → HasEnded as4 left0 now taken0 b result
ends_refused as4 left0 left now taken0 a b r number code old new text result p e more finishes =
    let whole = text_at_refusal as4 left0 left taken0 a r number code old new text p e more in
    let refused : Stands left0 taken0 a new (IsRefusedText as4) = record { file = whole.file; may_be = whole.may_be; written = whole.written; appended = whole.appended; is = (code, whole.is) } in
    finished as4 left0 now taken0 a b new endings.Refused result finishes (allowed_end as4 left0 taken0 a new (Some code) whole)
    (λ f. written_all left0 taken0 a b new (IsRefusedText as4) refused f)

pub ends_at_fault : (as4 : Bool) (left0 left now taken0 a b : Option (List ℕ)) (r s : Reading) (old new : List ℕ) (result : Ending) → Progress as4 left0 left taken0 a r old → ReadsNone r left s now → new ≡ old → Finishes a b new endings.ReadFault result → HasEnded as4 left0 now taken0 b result
ends_at_fault as4 left0 left now taken0 a b r s old new result p n same finishes =
    let all : Finishes a b old endings.ReadFault result = subst (λ (t : List ℕ). Finishes a b t endings.ReadFault result) same finishes in
    finished as4 left0 now taken0 a b old endings.ReadFault result all (allowed_first as4 left0 taken0 a old (lines_so_far as4 left0 left taken0 a r old p))
    (λ f. (
      p.read ++ n.octets,
      p.written ++ old,
      drained_to left0 now s.unread (p.read ++ n.octets) n.drained (Consumes-trans left0 (left_by r left) (left_by s now) p.read n.octets p.consumed n.consumed),
      Appends-trans taken0 a b p.written old p.appended f,
      record { first = record { number = r.number; written = r.written; front = p.read; rest = n.octets; split = refl; read = p.lines }; none = n.none },
    ))

-- a write failed on the way
pub ends_unwritten : (as4 : Bool) (left0 left now taken0 a b : Option (List ℕ)) (r : Reading) (old : List ℕ) → Progress as4 left0 left taken0 a r old → Writes a b (IsFrontOf old) → HasEnded as4 left0 now taken0 b endings.WriteFault
ends_unwritten as4 left0 left now taken0 a b r old p f = written_front as4 left0 taken0 a b old (allowed_first as4 left0 taken0 a old (lines_so_far as4 left0 left taken0 a r old p)) f

-- there was no memory
pub ends_early : (as4 : Bool) (left0 left now taken0 taken : Option (List ℕ)) (r : Reading) (old : List ℕ) → Progress as4 left0 left taken0 taken r old → HasEnded as4 left0 now taken0 taken endings.Memory
ends_early as4 left0 left now taken0 taken r old p =
    let some = some_rest (left_by r left) in
    (p.read ++ some.0, p.written, whole_file left0 (left_by r left) p.read some.0 p.consumed some.1, p.appended, first_of_more as4 p.read some.0 p.written p.first)
