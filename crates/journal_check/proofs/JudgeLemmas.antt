-- One line more of a journal.
use Rattle.std.proofs.Common.{◌≡◌, ◌⊎◌, ℕ, ◌+◌, ◌<◌, nat_lt, Bool, true, false, not, cond, List, [], ◌∷◌, ◌++◌, length, Option, Some, None, refl, sym, ap, subst, ◌∙◌, inl, inr, arith, append_assoc, length-append}
use Rattle.std.proofs.lemmas.List.{append-nil}
use Rattle.std.proofs.lemmas.List.Elements.{filter_map-append}
use Rattle.std.proofs.lemmas.Bool.Decides.{nat_tests}
use Rattle.std.specs.FinMap as map
use Rattle.journal_text.specs.Walk.{Links, Demands, IsLawful, after, fold_links, no_links}
use Rattle.journal_check.specs.Entries.{TextEntry, FamilyEntry, entry_in, entries_in}
use Rattle.journal_check.specs.Maps.{links_of}
use Rattle.journal_check.specs.Readings.{reading_of}
use Rattle.journal_check.specs.Judged.{rule_of, entries_given, joined, each_read, entries_read, AreLawful, IsReached, IsLawfulJournal, IsChecked}
use Rattle.journal_check.specs.Walked.{Walked, links_in, IsAfter, Takes, Steps}
use Rattle.journal_check.specs.declared.reading.Reading.{Reading}
use Rattle.journal_check.specs.declared.reading.Reading.TheVariants.{Skipped, Read, NotALine}
use Rattle.journal_check.specs.declared.checked.Checked.{Checked}
use Rattle.journal_check.specs.declared.checked.Checked.TheVariants.{Lawful, Broken, NotAJournal}
use Rattle.journal_check.proofs.StepLemmas.{links_begin}

-- ---- entries of lines

pub same_entries : (es fs : List FamilyEntry) → Some es ≡ Some fs → es ≡ fs
same_entries es fs e = cc

pub parts_of : (a b : Option (List FamilyEntry)) (es : List FamilyEntry) → joined a b ≡ Some es → (xs : List FamilyEntry) × (ys : List FamilyEntry) × (a ≡ Some xs) × (b ≡ Some ys) × (xs ++ ys ≡ es)
parts_of None b es e = absurd (cc)
parts_of (Some xs) None es e = absurd (cc)
parts_of (Some xs) (Some ys) es e = (xs, ys, refl, refl, same_entries (xs ++ ys) es e)

each_read_more : (lines : List (List ℕ)) (line : List ℕ) (es fs : List FamilyEntry) → each_read lines ≡ Some es → entries_given (reading_of line) ≡ Some fs → each_read (lines ++ line ∷ []) ≡ Some (es ++ fs)
each_read_more [] line es fs reads here = ap (λ r. joined r (Some [])) here ∙ ap Some (append-nil fs ∙ ap (λ xs. xs ++ fs) (same_entries [] es reads))
each_read_more (x ∷ lines) line es fs reads here =
    let p = parts_of (entries_given (reading_of x)) (each_read lines) es reads in
    ap (joined (entries_given (reading_of x))) (each_read_more lines line p.1 fs p.3 here)
    ∙ (ap (λ r. joined r (Some (p.1 ++ fs))) p.2
    ∙ ap Some (sym (append_assoc p.0 p.1 fs) ∙ ap (λ xs. xs ++ fs) p.4))

chosen : {A : Type 0} (b : Bool) (r : Option A) (x : A) → cond b r None ≡ Some x → (b ≡ true) × (r ≡ Some x)
chosen true r x e = (refl, e)
chosen false r x e = absurd (cc)

pub entries_few : (lines : List (List ℕ)) (es : List FamilyEntry) → entries_read lines ≡ Some es → (nat_lt (length lines) 4294967296 ≡ true) × (each_read lines ≡ Some es)
unfolding entries_read
entries_few lines es reads = chosen (nat_lt (length lines) 4294967296) (each_read lines) es reads

entries_read_more : (lines : List (List ℕ)) (line : List ℕ) (es fs : List FamilyEntry) → length lines + 1 < 4294967296 → entries_read lines ≡ Some es → entries_given (reading_of line) ≡ Some fs → entries_read (lines ++ line ∷ []) ≡ Some (es ++ fs)
unfolding entries_read
entries_read_more lines line es fs few reads here =
    let longer : length (lines ++ line ∷ []) ≡ length lines + 1 = omega (arith, length-append lines (line ∷ [])) in
    let test : nat_lt (length (lines ++ line ∷ [])) 4294967296 ≡ true = grind (arith, nat_tests) in
    ap (λ b. cond b (each_read (lines ++ line ∷ [])) None) test ∙ each_read_more lines line es fs (entries_few lines es reads).1 here

no_lines_read : entries_read [] ≡ Some []
unfolding entries_read
no_lines_read = refl

-- ---- walks

lawful_more : (links : Links (List ℕ)) (es : List TextEntry) (entry : TextEntry) → IsLawful links es → Demands (fold_links links es) entry → IsLawful links (es ++ entry ∷ [])
lawful_more links [] entry lawful demand = (demand, tt)
lawful_more links (e ∷ es) entry lawful demand = (lawful.0, lawful_more (after links e) es entry lawful.1 demand)

fold_more : (links : Links (List ℕ)) (es : List TextEntry) (entry : TextEntry) → fold_links links (es ++ entry ∷ []) ≡ after (fold_links links es) entry
fold_more links [] entry = refl
fold_more links (e ∷ es) entry = fold_more (after links e) es entry

-- ---- two families

-- the entry of a family, alone among the entries
own_alone : (v6 : Bool) (entry : TextEntry) (last : List TextEntry) → entries_in v6 (record { v6 = v6; entry = entry } ∷ []) ++ last ≡ entry ∷ last
own_alone true entry last = refl
own_alone false entry last = refl

none_of_other : (v6 : Bool) (entry : TextEntry) → entries_in (not v6) (record { v6 = v6; entry = entry } ∷ []) ≡ []
none_of_other true entry = refl
none_of_other false entry = refl

-- its family has it in its place
pub own_entries : (es : List FamilyEntry) (e : FamilyEntry) (last : List FamilyEntry) → entries_in e.v6 (es ++ e ∷ last) ≡ entries_in e.v6 es ++ e.entry ∷ entries_in e.v6 last
own_entries es e last =
    filter_map-append (entry_in e.v6) es (e ∷ last)
    ∙ ap (λ xs. entries_in e.v6 es ++ xs) (filter_map-append (entry_in e.v6) (e ∷ []) last ∙ own_alone e.v6 e.entry (entries_in e.v6 last))

-- and the other one doesn't
other_entries : (es : List FamilyEntry) (e : FamilyEntry) → entries_in (not e.v6) (es ++ e ∷ []) ≡ entries_in (not e.v6) es
other_entries es e =
    filter_map-append (entry_in (not e.v6)) es (e ∷ [])
    ∙ (ap (λ xs. entries_in (not e.v6) es ++ xs) (none_of_other e.v6 e.entry) ∙ append-nil (entries_in (not e.v6) es))

pub lawful_in : (v6 : Bool) (es : List FamilyEntry) → AreLawful es → IsLawful no_links (entries_in v6 es)
lawful_in true es lawful = lawful.1
lawful_in false es lawful = lawful.0

are_lawful : (v6 : Bool) (es : List FamilyEntry) → IsLawful no_links (entries_in v6 es) → IsLawful no_links (entries_in (not v6) es) → AreLawful es
are_lawful true es own other = (other, own)
are_lawful false es own other = (own, other)

-- an entry more, which its family's links admit
both_lawful : (es : List FamilyEntry) (e : FamilyEntry) → AreLawful es → Demands (fold_links no_links (entries_in e.v6 es)) e.entry → AreLawful (es ++ e ∷ [])
both_lawful es e lawful demand =
    are_lawful e.v6 (es ++ e ∷ [])
    (subst (IsLawful no_links) (sym (own_entries es e [])) (lawful_more no_links (entries_in e.v6 es) e.entry (lawful_in e.v6 es lawful) demand))
    (subst (IsLawful no_links) (sym (other_entries es e)) (lawful_in (not e.v6) es lawful))

each_family : (P : Bool → Type 0) (v6 : Bool) → P v6 → P (not v6) → (u : Bool) → P u
each_family P true own other true = own
each_family P true own other false = other
each_family P false own other true = other
each_family P false own other false = own

-- the links of each family after one entry more
links_more : (es : List FamilyEntry) (e : FamilyEntry) (old new : Walked) → ((v6 : Bool) → links_in v6 old ≡ fold_links no_links (entries_in v6 es)) → links_in e.v6 new ≡ after (links_in e.v6 old) e.entry → links_in (not e.v6) new ≡ links_in (not e.v6) old
    → (v6 : Bool) → links_in v6 new ≡ fold_links no_links (entries_in v6 (es ++ e ∷ []))
links_more es e old new was own other =
    each_family (λ v6. links_in v6 new ≡ fold_links no_links (entries_in v6 (es ++ e ∷ []))) e.v6
    (own ∙ (ap (λ l. after l e.entry) (was e.v6) ∙ (sym (fold_more no_links (entries_in e.v6 es) e.entry) ∙ ap (fold_links no_links) (sym (own_entries es e [])))))
    (other ∙ (was (not e.v6) ∙ ap (fold_links no_links) (sym (other_entries es e))))

-- ---- what was decided stays

reached_still : (lines : List (List ℕ)) (n : ℕ) (es : List FamilyEntry) (line more : List ℕ) → IsReached lines n es line → IsReached (lines ++ more ∷ []) n es line
reached_still lines n es line more r = record {
  before = r.before;
  later = r.later ++ more ∷ [];
  parted = ap (λ ls. ls ++ more ∷ []) r.parted ∙ append_assoc r.before (line ∷ r.later) (more ∷ []);
  number = r.number;
  reads = r.reads;
  lawful = r.lawful;
}

checked_still : (lines : List (List ℕ)) (more : List ℕ) (state : Checked) → (state ≡ Lawful → ⊥) → IsChecked lines state → IsChecked (lines ++ more ∷ []) state
checked_still lines more Lawful not_lawful is = absurd (not_lawful refl)
checked_still lines more (Broken n rule) not_lawful is = record {
  entries = is.entries;
  line = is.line;
  entry = is.entry;
  reached = reached_still lines n is.entries is.line more is.reached;
  below = is.below;
  reads = is.reads;
  by = is.by;
  broken = is.broken;
}
checked_still lines more (NotAJournal n) not_lawful is = record {
  entries = is.entries;
  line = is.line;
  reached = reached_still lines n is.entries is.line more is.reached;
  cause = is.cause;
}

pub after_decided : (lines : List (List ℕ)) (line : List ℕ) (walk : Walked) → (walk.state ≡ Lawful → ⊥) → IsAfter lines walk → IsAfter (lines ++ line ∷ []) walk
after_decided lines line walk decided is = record {
  checked = checked_still lines line walk.state decided is.checked;
  kept = λ lawful. absurd (decided lawful);
}

-- ---- one line more

-- a journal that was lawful so far
record Stands (lines : List (List ℕ)) (old : Walked) : Type 0 where
  es : List FamilyEntry
  reads : entries_read lines ≡ Some es
  lawful : AreLawful es
  number : old.number ≡ length lines
  links : (v6 : Bool) → links_in v6 old ≡ fold_links no_links (entries_in v6 es)

stands : (lines : List (List ℕ)) (old : Walked) → old.state ≡ Lawful → IsAfter lines old → Stands lines old
stands lines old state is =
    let lawful : IsLawfulJournal lines = subst (IsChecked lines) state is.checked in
    let kept = is.kept state in
    record { es = lawful.0; reads = lawful.1; lawful = lawful.2; number = kept.0; links = kept.1 lawful.0 lawful.1 }

here : (lines : List (List ℕ)) (line : List ℕ) (old : Walked) (s : Stands lines old) → IsReached (lines ++ line ∷ []) (old.number + 1) s.es line
here lines line old s = record { before = lines; later = []; parted = refl; number = ap (λ n. n + 1) s.number; reads = s.reads; lawful = s.lawful }

room : (lines : List (List ℕ)) (old : Walked) (s : Stands lines old) → (old.number + 1 ≡ 4294967296 → ⊥) → length lines + 1 < 4294967296
room lines old s apart =
    let test = (entries_few lines s.es s.reads).0 in
    let few : length lines < 4294967296 = grind (arith, nat_tests) in
    let number = s.number in
    let differ : length lines + 1 ≡ 4294967296 → ⊥ = λ e. apart (ap (λ n. n + 1) number ∙ e) in
    omega (arith, differ)

not_a_journal : (lines : List (List ℕ)) (line : List ℕ) (old new : Walked) → Stands lines old → (reading_of line ≡ NotALine) ⊎ (old.number + 1 ≡ 4294967296) → new.state ≡ NotAJournal (old.number + 1) → IsAfter (lines ++ line ∷ []) new
not_a_journal lines line old new s cause state = record {
  checked = subst (IsChecked (lines ++ line ∷ [])) (sym state) (record { entries = s.es; line = line; reached = here lines line old s; cause = cause });
  kept = λ lawful. absurd (let clash : NotAJournal (old.number + 1) ≡ Lawful = sym state ∙ lawful in cc);
}

broken_here : (lines : List (List ℕ)) (line : List ℕ) (entry : FamilyEntry) (old new : Walked) → Stands lines old → old.number + 1 < 4294967296 → reading_of line ≡ Read entry → (Demands (links_in entry.v6 old) entry.entry → ⊥) → new.state ≡ Broken (old.number + 1) (rule_of entry.entry)
    → IsAfter (lines ++ line ∷ []) new
broken_here lines line entry old new s below reads broken state = record {
  checked = subst (IsChecked (lines ++ line ∷ [])) (sym state) (record {
    entries = s.es;
    line = line;
    entry = entry;
    reached = here lines line old s;
    below = below;
    reads = reads;
    by = refl;
    broken = subst (λ l. Demands l entry.entry → ⊥) (s.links entry.v6) broken;
  });
  kept = λ lawful. absurd (let clash : Broken (old.number + 1) (rule_of entry.entry) ≡ Lawful = sym state ∙ lawful in cc);
}

-- the lines give these entries more, and the walk goes on
goes_on : (lines : List (List ℕ)) (line : List ℕ) (fs : List FamilyEntry) (old new : Walked) (s : Stands lines old) → length lines + 1 < 4294967296 → entries_given (reading_of line) ≡ Some fs → AreLawful (s.es ++ fs)
    → new.state ≡ Lawful → new.number ≡ old.number + 1 → ((v6 : Bool) → links_in v6 new ≡ fold_links no_links (entries_in v6 (s.es ++ fs))) → IsAfter (lines ++ line ∷ []) new
goes_on lines line fs old new s few gives lawful state number links =
    let reads = entries_read_more lines line s.es fs few s.reads gives in
    record {
      checked = subst (IsChecked (lines ++ line ∷ [])) (sym state) (s.es ++ fs, reads, lawful);
      kept = λ _. (
        let was = s.number in omega (arith, length-append lines (line ∷ [])),
        λ entries is v6. links v6 ∙ ap (λ es. fold_links no_links (entries_in v6 es)) (same_entries (s.es ++ fs) entries (sym reads ∙ is)),
      );
    }

counted : (v6 : Bool) (walk : Walked) (n : ℕ) → links_in v6 (record walk { number = n }) ≡ links_in v6 walk
counted true walk n = refl
counted false walk n = refl

by_reading : (lines : List (List ℕ)) (line : List ℕ) (old new : Walked) (s : Stands lines old) → old.state ≡ Lawful → (old.number + 1 ≡ 4294967296 → ⊥) → (r : Reading) → reading_of line ≡ r → Takes r old new → IsAfter (lines ++ line ∷ []) new
by_reading lines line old new s state apart NotALine reads takes = not_a_journal lines line old new s (inl reads) takes
by_reading lines line old new s state apart Skipped reads takes =
    goes_on lines line [] old new s (room lines old s apart) (ap entries_given reads) (subst AreLawful (sym (append-nil s.es)) s.lawful)
    (ap (λ (w : Walked). w.state) takes ∙ state) (ap (λ (w : Walked). w.number) takes)
    (λ v6. ap (links_in v6) takes ∙ (counted v6 old (old.number + 1) ∙ (s.links v6 ∙ ap (λ es. fold_links no_links (entries_in v6 es)) (sym (append-nil s.es)))))
by_reading lines line old new s state apart (Read entry) reads (inl (broken, now)) =
    broken_here lines line entry old new s (let few = room lines old s apart in let number = s.number in omega arith) reads broken now
by_reading lines line old new s state apart (Read entry) reads (inr (demand, same, number, own, other)) =
    goes_on lines line (entry ∷ []) old new s (room lines old s apart) (ap entries_given reads) (both_lawful s.es entry s.lawful (subst (λ l. Demands l entry.entry) (s.links entry.v6) demand))
    (same ∙ state) number
    (links_more s.es entry old new s.links own other)

pub after_step : (lines : List (List ℕ)) (line : List ℕ) (old new : Walked) → old.state ≡ Lawful → Steps line old new → IsAfter lines old → IsAfter (lines ++ line ∷ []) new
after_step lines line old new state (inl (last, now)) is = not_a_journal lines line old new (stands lines old state is) (inr last) now
after_step lines line old new state (inr (apart, takes)) is = by_reading lines line old new (stands lines old state is) state apart (reading_of line) refl takes

pub after_none : (walk : Walked) → walk.number ≡ 0 → walk.state ≡ Lawful → walk.first ≡ map.empty → walk.second ≡ map.empty → IsAfter [] walk
after_none walk number state first second = record {
  checked = subst (IsChecked []) (sym state) ([], no_lines_read, (tt, tt));
  kept = λ _. (number, λ entries is v6. empty_links v6 ∙ ap (λ es. fold_links no_links (entries_in v6 es)) (same_entries [] entries (sym no_lines_read ∙ is)));
}
  where
    empty_links : (v6 : Bool) → links_in v6 walk ≡ no_links
    empty_links true = ap links_of second ∙ links_begin
    empty_links false = ap links_of first ∙ links_begin
