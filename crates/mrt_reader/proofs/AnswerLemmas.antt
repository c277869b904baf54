-- What is answered of the next record.
use Rattle.std.proofs.Common.{◌≡◌, ℕ, ◌+◌, ◌<◌, ◌≤◌, Bool, true, false, List, [], ◌++◌, length, Option, Result, Ok, Err, IfOk, OnOk, refl, sym, ap, ◌∙◌, subst, arith, length-append}
use Rattle.std.proofs.KnownBytes.{Consumes-trans}
use Rattle.std.specs.Result.{IsErrAnd}
use Rattle.std.specs.Io.KnownBytes.{Consumes}
use Rattle.mrt_reader.specs.Records.{Record, AreBytes, kind_in, subtype_in, length_in}
use Rattle.mrt_reader.specs.Fields as told
use Rattle.mrt_reader.specs.Fields.{Said, said_in}
use Rattle.mrt_reader.specs.Kept.{said_of}
use Rattle.mrt_reader.specs.Lines.{text_of, refused_text}
use Rattle.mrt_reader.specs.Sessions.{Written, after_all, lines_said}
use Rattle.mrt_reader.specs.Files.{IsRefusal}
use Rattle.mrt_reader.specs.Sources.{Reading, left_by, AreTaken, MayBe, ReadsOne, ReadsNone, Refuses, Gives}
use Rattle.mrt_reader.specs.declared.answer.Code.{Code}
use Rattle.mrt_reader.specs.declared.answer.Code.TheVariants.{M1, M2, M3}
use Rattle.mrt_reader.specs.declared.answer.Next.{Next}
use Rattle.mrt_reader.specs.declared.answer.Next.TheVariants as answers
use Rattle.mrt_reader.specs.declared.answer.Stop.{Stop}
use Rattle.mrt_reader.specs.declared.answer.Stop.TheVariants.{ReadFault, Memory}
use Rattle.mrt_reader.specs.declared.fields.Header.{Header}
use Rattle.mrt_reader.specs.declared.fields.Body.{Body}
use Rattle.mrt_reader.specs.declared.fields.Body.TheVariants as bodies
use Rattle.mrt_reader.proofs.FileLemmas.{read_more, short_body, may_be_read, may_go_on}

-- ---- what was taken

taken_consumes : (a b : Option (List ℕ)) (n : ℕ) (all : Bool) (octets : List ℕ) → AreTaken a b n (Ok all) octets → Consumes a b octets
taken_consumes a b n true octets t = t.0
taken_consumes a b n false octets t = t.0

-- a whole header was read
pub record HeadRead (a b : Option (List ℕ)) (head : List ℕ) (h : Header) : Type 0 where
  pub twelve : length head ≡ 12
  pub consumed : Consumes a b head
  pub kind : h.kind ≡ kind_in head
  pub subtype : h.subtype ≡ subtype_in head
  pub size : h.length ≡ length_in head
  pub bytes : AreBytes head

pub head_read : (a b : Option (List ℕ)) (none head octets seen : List ℕ) (h : Header) (all : Bool) → all ≡ true → none ≡ [] → head ≡ none ++ octets → seen ≡ head → h ≡ record { kind = kind_in seen; subtype = subtype_in seen; length = length_in seen } → AreTaken a b 12 (Ok all) octets → AreBytes octets → HeadRead a b head h
head_read a b none head octets seen h false is cleared more same fields t bytes = absurd (cc)
head_read a b none head octets seen h true is cleared more same fields t bytes =
    let whole : octets ≡ head = sym (more ∙ ap (λ xs. xs ++ octets) cleared) in
    record {
      twelve = ap length (sym whole) ∙ t.1;
      consumed = subst (λ (xs : List ℕ). Consumes a b xs) whole t.0;
      kind = ap (λ f. f.kind) fields ∙ ap kind_in same;
      subtype = ap (λ f. f.subtype) fields ∙ ap subtype_in same;
      size = ap (λ f. f.length) fields ∙ ap length_in same;
      bytes = subst AreBytes whole bytes;
    }

-- ---- refusals

-- the file goes on so that it is refused
pub record IsRefusedBy (as4 : Bool) (left : Option (List ℕ)) (number : ℕ) (code : Code) : Type 0 where
  pub rest : List ℕ
  pub may_be : MayBe left rest
  pub refused : IsRefusal as4 number rest code

pub gives_refused : (old r : Reading) (left now : Option (List ℕ)) (new : Reading) (code : Code) (before text : List ℕ) (result : Result Next Stop) → old ≡ r → before ≡ [] → IsRefusedBy r.as4 (left_by r left) r.number code → IfOk result (λ next. next ≡ answers.Refused (r.number + 1) code) → OnOk result (text ≡ before ++ refused_text (r.number + 1) code) → IfOk result (λ next. Gives old left next text new now)
gives_refused old r left now new code before text (Err e) same cleared refused answer line = tt
gives_refused old r left now new code before text (Ok next) same cleared refused answer line =
    let refuses : Refuses r left (r.number + 1) code text = record {
      at = refl;
      rest = refused.rest;
      may_be = refused.may_be;
      refused = refused.refused;
      said = line ∙ ap (λ xs. xs ++ refused_text (r.number + 1) code) cleared;
    } in
    subst (λ (o : Reading). Gives o left next text new now) (sym same)
    (subst (λ (n : Next). Gives r left n text new now) (sym answer) refuses)

-- one record more than may be
pub too_many : (as4 : Bool) (a b : Option (List ℕ)) (n : ℕ) (none head octets : List ℕ) (all : Bool) → none ≡ [] → head ≡ none ++ octets → 0 < length head → 1000000000 ≤ n → n ≤ 1000000000 → AreTaken a b 12 (Ok all) octets → IsRefusedBy as4 a n M3
too_many as4 a b n none head octets all cleared more some most few t =
    let g = may_go_on a b octets (taken_consumes a b 12 all octets t) in
    record {
      rest = octets ++ g.0;
      may_be = g.1;
      refused = (omega (arith, most, few), omega (arith, some, ap length more, length-append none octets, ap length cleared, length-append octets g.0));
    }

-- the input ends within the body
pub cut_in_body : (as4 : Bool) (a b c : Option (List ℕ)) (n : ℕ) (head part : List ℕ) (h : Header) (all : Bool) → n < 1000000000 → HeadRead a b head h → all ≡ false → AreTaken b c h.length (Ok all) part → IsRefusedBy as4 a n M1
cut_in_body as4 a b c n head part h true few r is t = absurd (cc)
cut_in_body as4 a b c n head part h false few r is t = record {
  rest = head ++ part;
  may_be = may_be_read a c (head ++ part) (Consumes-trans a b c head part r.consumed t.0) t.2;
  refused = (few, omega (arith, r.twelve, length-append head part), short_body head part r.twelve (omega (arith, t.1, r.size)));
}

-- the error that a `?` passes on
pub passed_on : (result : Result Next Stop) (stop inner : Stop) → result ≡ Err stop → IsErrAnd result (λ e. e ≡ inner) → inner ≡ stop
passed_on result stop inner is passed =
    let same : IsErrAnd {T = Next} (Err stop) (λ e. e ≡ inner) = subst (λ (r : Result Next Stop). IsErrAnd r (λ e. e ≡ inner)) is passed in
    sym same

-- a read failed within the body
pub fails_in_body : (old r : Reading) (left b now : Option (List ℕ)) (new : Reading) (head part : List ℕ) (h : Header) (stop : Stop) → old ≡ r → stop ≡ ReadFault → HeadRead (left_by r left) b head h → AreTaken b (left_by new now) h.length (Err stop) part → new.unread ≡ [] → ReadsNone old left new now
fails_in_body old r left b now new head part h Memory same is f t drained = absurd (cc)
fails_in_body old r left b now new head part h ReadFault same is f t drained = record {
  octets = head ++ part;
  consumed = subst (λ (o : Reading). Consumes (left_by o left) (left_by new now) (head ++ part)) (sym same) (Consumes-trans (left_by r left) b (left_by new now) head part f.consumed t.0);
  drained = drained;
  none = short_body head part f.twelve (omega (arith, t.1, f.size));
}

-- ---- a whole record

said_again : (as4 : Bool) (a b : Option (List ℕ)) (head part : List ℕ) (h : Header) → HeadRead a b head h → said_in as4 h.kind h.subtype part ≡ said_in as4 (kind_in head) (subtype_in head) part
said_again as4 a b head part h r = λ i. said_in as4 (r.kind i) (r.subtype i) part

pub malformed : (as4 : Bool) (a b c : Option (List ℕ)) (n : ℕ) (head kept part : List ℕ) (h : Header) (all : Bool) (body : Body) → n < 1000000000 → HeadRead a b head h → all ≡ true → AreTaken b c h.length (Ok all) part → said_of kept body ≡ said_in as4 h.kind h.subtype part → body ≡ bodies.Malformed → AreBytes part → IsRefusedBy as4 a n M2
malformed as4 a b c n head kept part h false body few r is t said e bytes = absurd (cc)
malformed as4 a b c n head kept part h true body few r is t said e bytes =
    let g = may_go_on a c (head ++ part) (Consumes-trans a b c head part r.consumed t.0) in
    let one : Record = record { head = head; body = part } in
    record {
      rest = (head ++ part) ++ g.0;
      may_be = g.1;
      refused = (few, (one, g.0, record { head = r.twelve; body = t.1 ∙ r.size; bytes = (r.bytes, bytes) }, refl, sym (said_again as4 a b head part h r) ∙ (sym said ∙ ap (said_of kept) e)));
    }

formed : (kept : List ℕ) (body : Body) → (body ≡ bodies.Malformed → ⊥) → said_of kept body ≡ told.Malformed → ⊥
formed kept bodies.Unused other e = cc
formed kept bodies.Malformed other e = other refl
formed kept (bodies.Session s n) other e = cc

pub reads_one : (old r : Reading) (left b now : Option (List ℕ)) (written : Written) (unread head kept part before text : List ℕ) (h : Header) (all : Bool) (body : Body) → old ≡ r → before ≡ [] → r.number < 1000000000 → HeadRead (left_by r left) b head h → all ≡ true → AreTaken b (left_by (record { as4 = r.as4; number = r.number + 1; written = written; unread = unread }) now) h.length (Ok all) part → said_of kept body ≡ said_in r.as4 h.kind h.subtype part → (body ≡ bodies.Malformed → ⊥) → text ≡ before ++ text_of (lines_said r.as4 r.written (said_of kept body)) → written ≡ after_all r.written (lines_said r.as4 r.written (said_of kept body)) → AreBytes part → ReadsOne old left text (record { as4 = r.as4; number = r.number + 1; written = written; unread = unread }) now
reads_one old r left b now written unread head kept part before text h false body same cleared few f is t said other line behind bytes = absurd (cc)
reads_one old r left b now written unread head kept part before text h true body same cleared few f is t said other line behind bytes =
    let new : Reading = record { as4 = r.as4; number = r.number + 1; written = written; unread = unread } in
    let one : Record = record { head = head; body = part } in
    let says : said_of kept body ≡ said_in r.as4 (kind_in head) (subtype_in head) part = said ∙ said_again r.as4 (left_by r left) b head part h f in
    let reads : ReadsOne r left text new now = record {
      octets = head ++ part;
      consumed = Consumes-trans (left_by r left) b (left_by new now) head part f.consumed t.0;
      same = refl;
      more = refl;
      few = omega (arith, few);
      goes_on = λ read earlier was. read_more r.as4 read earlier (head ++ part) text r.number r.written written one
          (record { whole = record { head = f.twelve; body = t.1 ∙ f.size; bytes = (f.bytes, bytes) }; formed = λ e. formed kept body other (says ∙ e) }) few refl
          (line ∙ ((λ i. cleared i ++ text_of (lines_said r.as4 r.written (says i))))) (behind ∙ ap (λ s. after_all r.written (lines_said r.as4 r.written s)) says) was;
    } in
    subst (λ (o : Reading). ReadsOne o left text new now) (sym same) reads
