-- What is to be said of the lines of a journal is one thing alone.
use Rattle.std.proofs.Common.{◌≡◌, ◌⊎◌, ℕ, ◌+◌, ◌<◌, List, [], ◌∷◌, ◌++◌, length, Some, None, refl, sym, ap, subst, ◌∙◌, inl, inr, arith, append_assoc, length-append}
use Rattle.std.proofs.lemmas.Bool.Decides.{nat_tests}
use Rattle.journal_text.specs.Walk.{Links, Demands, IsLawful, after, fold_links, no_links}
use Rattle.journal_check.specs.Entries.{TextEntry, FamilyEntry, entries_in}
use Rattle.journal_check.specs.Readings.{reading_of}
use Rattle.journal_check.specs.Judged.{rule_of, entries_given, joined, each_read, entries_read, AreLawful, Breaks, IsReached, IsBrokenAt, IsNotAJournalAt, IsLawfulJournal}
use Rattle.journal_check.specs.Laws.{OneAnswer}
use Rattle.journal_check.specs.declared.reading.Reading.TheVariants.{Read, NotALine}
use Rattle.journal_check.specs.declared.checked.Checked.TheVariants.{Lawful, Broken, NotAJournal}
use Rattle.journal_check.proofs.JudgeLemmas.{same_entries, parts_of, entries_few, own_entries, lawful_in}

-- ---- two ways to part the same lines

abbrev Meets : List (List ℕ) → List ℕ → List (List ℕ) → List ℕ → Type 0
Meets a x b y =
    ((a ≡ b) × (x ≡ y))
    ⊎ (((more : List (List ℕ)) × (b ≡ a ++ x ∷ more)) ⊎ ((more : List (List ℕ)) × (a ≡ b ++ y ∷ more)))

first_same : (x y : List ℕ) (xs ys : List (List ℕ)) → x ∷ xs ≡ y ∷ ys → (x ≡ y) × (xs ≡ ys)
first_same x y xs ys e = (cc, cc)

longer : (w v : List ℕ) → w ≡ v → (a b : List (List ℕ)) (x y : List ℕ) → Meets a x b y → Meets (w ∷ a) x (v ∷ b) y
longer w v e a b x y (inl same) = inl ((λ i. e i ∷ same.0 i), same.1)
longer w v e a b x y (inr (inl after_a)) = inr (inl (after_a.0, (λ i. sym e i ∷ after_a.1 i)))
longer w v e a b x y (inr (inr after_b)) = inr (inr (after_b.0, (λ i. e i ∷ after_b.1 i)))

meet : (a : List (List ℕ)) (x : List ℕ) (s b : List (List ℕ)) (y : List ℕ) (t : List (List ℕ)) → a ++ x ∷ s ≡ b ++ y ∷ t → Meets a x b y
meet [] x s [] y t e = inl (refl, (first_same x y s t e).0)
meet [] x s (v ∷ b) y t e = inr (inl (b, (λ i. sym (first_same x v s (b ++ y ∷ t) e).0 i ∷ b)))
meet (w ∷ a) x s [] y t e = inr (inr (a, (λ i. (first_same w y (a ++ x ∷ s) t e).0 i ∷ a)))
meet (w ∷ a) x s (v ∷ b) y t e = let same = first_same w v (a ++ x ∷ s) (b ++ y ∷ t) e in longer w v same.0 a b x y (meet a x s b y t same.1)

-- ---- a line at which it is decided

abbrev Fails : List (List ℕ) → List ℕ → List FamilyEntry → Type 0
Fails before line entries =
    ((entry : FamilyEntry) × (reading_of line ≡ Read entry) × Breaks entries entry)
    ⊎ ((reading_of line ≡ NotALine) ⊎ (length before + 1 ≡ 4294967296))

-- the entries of lines that are all read, at one of them
record Within (before : List (List ℕ)) (line : List ℕ) (es : List FamilyEntry) : Type 0 where
  first : List FamilyEntry
  own : List FamilyEntry
  last : List FamilyEntry
  reads : each_read before ≡ Some first
  gives : entries_given (reading_of line) ≡ Some own
  all : es ≡ first ++ (own ++ last)

within : (before : List (List ℕ)) (line : List ℕ) (more : List (List ℕ)) (es : List FamilyEntry) → each_read (before ++ line ∷ more) ≡ Some es → Within before line es
within [] line more es reads =
    let p = parts_of (entries_given (reading_of line)) (each_read more) es reads in
    record { first = []; own = p.0; last = p.1; reads = refl; gives = p.2; all = sym p.4 }
within (x ∷ before) line more es reads =
    let p = parts_of (entries_given (reading_of x)) (each_read (before ++ line ∷ more)) es reads in
    let w = within before line more p.1 p.3 in
    record {
      first = p.0 ++ w.first;
      own = w.own;
      last = w.last;
      reads = ap (λ r. joined r (each_read before)) p.2 ∙ ap (joined (Some p.0)) w.reads;
      gives = w.gives;
      all = sym p.4 ∙ (ap (λ ys. p.0 ++ ys) w.all ∙ sym (append_assoc p.0 w.first (w.own ++ w.last)));
    }

demanded : (links : Links (List ℕ)) (first : List TextEntry) (entry : TextEntry) (last : List TextEntry) → IsLawful links (first ++ entry ∷ last) → Demands (fold_links links first) entry
demanded links [] entry last lawful = lawful.0
demanded links (e ∷ first) entry last lawful = demanded (after links e) first entry last lawful.1

none_given : (line : List ℕ) (own : List FamilyEntry) → entries_given (reading_of line) ≡ Some own → reading_of line ≡ NotALine → ⊥
none_given line own gives is = let none : None ≡ Some own = sym (ap entries_given is) ∙ gives in cc

one_given : (own : List FamilyEntry) (entry : FamilyEntry) → entries_given (Read entry) ≡ Some own → own ≡ entry ∷ []
one_given own entry gives = sym (same_entries (entry ∷ []) own gives)

-- lines that are all read and lawful have no such line among them
no_failure : (before : List (List ℕ)) (line : List ℕ) (more : List (List ℕ)) (entries es : List FamilyEntry) → entries_read before ≡ Some entries → Fails before line entries → entries_read (before ++ line ∷ more) ≡ Some es → AreLawful es → ⊥
no_failure before line more entries es reads (inl (entry, is, broken)) all lawful =
    let w = within before line more es (entries_few (before ++ line ∷ more) es all).1 in
    let own : w.own ≡ entry ∷ [] = one_given w.own entry (sym (ap entries_given is) ∙ w.gives) in
    let first : w.first ≡ entries = same_entries w.first entries (sym w.reads ∙ (entries_few before entries reads).1) in
    let whole : es ≡ entries ++ entry ∷ w.last = w.all ∙ (λ i. first i ++ (own i ++ w.last)) in
    let walk = own_entries entries entry w.last in
    broken (demanded no_links (entries_in entry.v6 entries) entry.entry (entries_in entry.v6 w.last) (subst (IsLawful no_links) (ap (entries_in entry.v6) whole ∙ walk) (lawful_in entry.v6 es lawful)))
no_failure before line more entries es reads (inr (inl is)) all lawful =
    let w = within before line more es (entries_few (before ++ line ∷ more) es all).1 in none_given line w.own w.gives is
no_failure before line more entries es reads (inr (inr last)) all lawful =
    let test = (entries_few (before ++ line ∷ more) es all).0 in
    let few : length (before ++ line ∷ more) < 4294967296 = grind (arith, nat_tests) in
    omega (arith, length-append before (line ∷ more))

-- ---- two answers

-- where it is decided by line n
record IsDecided (lines : List (List ℕ)) (n : ℕ) (line : List ℕ) (entries : List FamilyEntry) : Type 0 where
  reached : IsReached lines n entries line
  fails : Fails reached.before line entries

decided_broken : (lines : List (List ℕ)) (n rule : ℕ) (is : IsBrokenAt lines n rule) → IsDecided lines n is.line is.entries
decided_broken lines n rule is = record { reached = is.reached; fails = inl (is.entry, is.reads, is.broken) }

cause_there : (lines : List (List ℕ)) (n : ℕ) (line : List ℕ) (entries : List FamilyEntry) (r : IsReached lines n entries line) → (reading_of line ≡ NotALine) ⊎ (n ≡ 4294967296) → (reading_of line ≡ NotALine) ⊎ (length r.before + 1 ≡ 4294967296)
cause_there lines n line entries r (inl is) = inl is
cause_there lines n line entries r (inr last) = inr (sym r.number ∙ last)

decided_none : (lines : List (List ℕ)) (n : ℕ) (is : IsNotAJournalAt lines n) → IsDecided lines n is.line is.entries
decided_none lines n is = record { reached = is.reached; fails = inr (cause_there lines n is.line is.entries is.reached is.cause) }

lawful_or_decided : (lines : List (List ℕ)) (n : ℕ) (line : List ℕ) (entries : List FamilyEntry) → IsLawfulJournal lines → IsDecided lines n line entries → ⊥
lawful_or_decided lines n line entries lawful d =
    no_failure d.reached.before line d.reached.later entries lawful.0 d.reached.reads d.fails (sym (ap entries_read d.reached.parted) ∙ lawful.1) lawful.2

-- the same line, with the same entries before it
record IsSame (n m : ℕ) (x y : List ℕ) (es fs : List FamilyEntry) : Type 0 where
  number : n ≡ m
  line : x ≡ y
  entries : es ≡ fs

decided_once : (lines : List (List ℕ)) (n m : ℕ) (x y : List ℕ) (es fs : List FamilyEntry) → IsDecided lines n x es → IsDecided lines m y fs → IsSame n m x y es fs
decided_once lines n m x y es fs d e = by (meet d.reached.before x d.reached.later e.reached.before y e.reached.later (sym d.reached.parted ∙ e.reached.parted))
  where
    by : Meets d.reached.before x e.reached.before y → IsSame n m x y es fs
    by (inl same) = record {
      number = d.reached.number ∙ (ap (λ (ls : List (List ℕ)). length ls + 1) same.0 ∙ sym e.reached.number);
      line = same.1;
      entries = same_entries es fs (sym d.reached.reads ∙ (ap entries_read same.0 ∙ e.reached.reads));
    }
    by (inr (inl later)) = absurd (no_failure d.reached.before x later.0 es fs d.reached.reads d.fails (sym (ap entries_read later.1) ∙ e.reached.reads) e.reached.lawful)
    by (inr (inr later)) = absurd (no_failure e.reached.before y later.0 fs es e.reached.reads e.fails (sym (ap entries_read later.1) ∙ d.reached.reads) d.reached.lawful)

same_reading : (a b : FamilyEntry) → Read a ≡ Read b → a ≡ b
same_reading a b e = cc

broken_once : (lines : List (List ℕ)) (n rule m law : ℕ) → IsBrokenAt lines n rule → IsBrokenAt lines m law → Broken n rule ≡ Broken m law
broken_once lines n rule m law a b =
    let same = decided_once lines n m a.line b.line a.entries b.entries (decided_broken lines n rule a) (decided_broken lines m law b) in
    let entry : a.entry ≡ b.entry = same_reading a.entry b.entry (sym a.reads ∙ (ap reading_of same.line ∙ b.reads)) in
    let by : rule ≡ law = sym a.by ∙ (ap (λ (e : FamilyEntry). rule_of e.entry) entry ∙ b.by) in
    λ i. Broken (same.number i) (by i)

none_once : (lines : List (List ℕ)) (n m : ℕ) → IsNotAJournalAt lines n → IsNotAJournalAt lines m → NotAJournal n ≡ NotAJournal m
none_once lines n m a b = ap (λ (k : ℕ). NotAJournal k) (decided_once lines n m a.line b.line a.entries b.entries (decided_none lines n a) (decided_none lines m b)).number

not_both : (n m : ℕ) (x y : List ℕ) (entry : FamilyEntry) → n ≡ m → x ≡ y → reading_of x ≡ Read entry → n < 4294967296 → (reading_of y ≡ NotALine) ⊎ (m ≡ 4294967296) → ⊥
not_both n m x y entry number line reads below (inl is) = let clash : Read entry ≡ NotALine = sym reads ∙ (ap reading_of line ∙ is) in cc
not_both n m x y entry number line reads below (inr last) = omega arith

broken_or_none : (lines : List (List ℕ)) (n rule m : ℕ) → IsBrokenAt lines n rule → IsNotAJournalAt lines m → ⊥
broken_or_none lines n rule m a b =
    let same = decided_once lines n m a.line b.line a.entries b.entries (decided_broken lines n rule a) (decided_none lines m b) in
    not_both n m a.line b.line a.entry same.number same.line a.reads a.below b.cause

pub one_answer : OneAnswer
one_answer lines Lawful Lawful g h = refl
one_answer lines Lawful (Broken m law) g h = absurd (lawful_or_decided lines m h.line h.entries g (decided_broken lines m law h))
one_answer lines Lawful (NotAJournal m) g h = absurd (lawful_or_decided lines m h.line h.entries g (decided_none lines m h))
one_answer lines (Broken n rule) Lawful g h = absurd (lawful_or_decided lines n g.line g.entries h (decided_broken lines n rule g))
one_answer lines (Broken n rule) (Broken m law) g h = broken_once lines n rule m law g h
one_answer lines (Broken n rule) (NotAJournal m) g h = absurd (broken_or_none lines n rule m g h)
one_answer lines (NotAJournal n) Lawful g h = absurd (lawful_or_decided lines n g.line g.entries h (decided_none lines n g))
one_answer lines (NotAJournal n) (Broken m law) g h = absurd (broken_or_none lines m law n h g)
one_answer lines (NotAJournal n) (NotAJournal m) g h = none_once lines n m g h
