-- What the joined lines of both networks say of each: all that its own lines say, but how many turns an idle takes.
use Rattle.std.proofs.Common.{◌≡◌, ℕ, ◌+◌, ◌≤◌, ◌<◌, ◌^◌, Bool, true, false, List, [], ◌∷◌, ◌++◌, length, Option, ⊎_elim, refl, sym, ap, subst, ◌∙◌, arith, length-append}
use Rattle.std.specs.Prelude.{Contains}
use Rattle.std.specs.List.{AllByRecursion}
use Rattle.std.proofs.lemmas.List.{append-nil}
use Rattle.std.proofs.lemmas.List.Concat.{flat_map-append}
use Rattle.std.proofs.lemmas.List.Elements.{Contains-append_left, Contains-append_right, Contains-append_cases, Contains-push_cases}
use Rattle.bgp_attr.specs.declared.speaker.Neighbour.{Neighbour}
use Rattle.bgp_attr.specs.declared.speaker.Profile.{Profile}
use Rattle.journal_text.specs.Lines.{Line}
use Rattle.journal_text.specs.declared.line.Line.TheVariants as lines
use Rattle.journal_text.specs.Texts.{entry_list, entries_of}
use Rattle.journal_check.proofs.InkLemmas.{all_append}
use Rattle.journal_laws.specs.FamilyLines.{FamilyLine, of_family, lines_in}
use Rattle.journal_laws.specs.Printed.{Printing, IsPrinted}
use Rattle.journal_laws.proofs.FamilyTexts.{lines_in_append, lines_of_own, lines_of_other}
use Rattle.live_state.specs.Heard.{Views, Hears}
use Rattle.router.specs.Steps.{CountsIdle, JoinsIdles, AreJoined}

-- ---- lines that say the same
-- the entries, what peers hear and are told, and what can be printed
pub record IsShare (own share : List Line) : Type 0 where
  pub entries : entries_of share ≡ entries_of own
  pub heard : (profile : Profile) (peers : ℕ → Option Neighbour) (v v' : Views) → Hears profile peers v own v' → Hears profile peers v share v'
  pub told : (j : ℕ) (octets : List ℕ) → Contains own (lines.Out j octets) → Contains share (lines.Out j octets)
  pub printed : (p : Printing) → AllByRecursion (IsPrinted p) own → AllByRecursion (IsPrinted p) share

share_same : (own : List Line) → IsShare own own
share_same own = record { entries = refl; heard = λ profile peers v v' h. h; told = λ j octets h. h; printed = λ p h. h }

pub share_as : (own share : List Line) → share ≡ own → IsShare own share
share_as own share is = subst (IsShare own) (sym is) (share_same own)

share_then : (a b c : List Line) → IsShare a b → IsShare b c → IsShare a c
share_then a b c f g = record {
  entries = g.entries ∙ f.entries;
  heard = λ profile peers v v' h. g.heard profile peers v v' (f.heard profile peers v v' h);
  told = λ j octets h. g.told j octets (f.told j octets h);
  printed = λ p h. g.printed p (f.printed p h);
}

-- ---- the lines of an idle, around what it did
abbrev around : ℕ → List Line → ℕ → List Line
around bound inner turns = lines.Bound bound ∷ (inner ++ lines.Idle turns ∷ [])

entries_around : (bound turns : ℕ) (inner : List Line) → entries_of (around bound inner turns) ≡ entries_of inner
entries_around bound turns inner = flat_map-append entry_list inner (lines.Idle turns ∷ []) ∙ append-nil (entries_of inner)

module _ (profile : Profile) (peers : ℕ → Option Neighbour) (turns : ℕ) (v' : Views) where
  hears_less : (inner : List Line) (v : Views) → Hears profile peers v (inner ++ lines.Idle turns ∷ []) v' → Hears profile peers v inner v'
  hears_less [] v h = h.2 ∙ h.1
  hears_less (line ∷ inner) v h = (h.0, h.1, hears_less inner h.0 h.2)

  hears_more : (inner : List Line) (v : Views) → Hears profile peers v inner v' → Hears profile peers v (inner ++ lines.Idle turns ∷ []) v'
  hears_more [] v h = (v, refl, h)
  hears_more (line ∷ inner) v h = (h.0, h.1, hears_more inner h.0 h.2)

  heard_around : (bound : ℕ) (inner : List Line) (v : Views) → Hears profile peers v (around bound inner turns) v' → Hears profile peers v inner v'
  heard_around bound inner v h = subst (λ (u : Views). Hears profile peers u inner v') h.1 (hears_less inner h.0 h.2)

  heard_within : (bound : ℕ) (inner : List Line) (v : Views) → Hears profile peers v inner v' → Hears profile peers v (around bound inner turns) v'
  heard_within bound inner v h = (v, refl, hears_more inner v h)

-- a message is among what an idle did
module _ (j : ℕ) (octets : List ℕ) where
  no_bound : (bound : ℕ) → ◌≡◌ {A = Line} (lines.Bound bound) (lines.Out j octets) → ⊥
  no_bound bound e = absurd (cc)

  no_idle : (turns : ℕ) → ◌≡◌ {A = Line} (lines.Idle turns) (lines.Out j octets) → ⊥
  no_idle turns e = absurd (cc)

  in_none : Contains {X = Line} [] (lines.Out j octets) → ⊥
  in_none h = absurd (omega (arith, h.1))

  in_bound : (bound : ℕ) → Contains {X = Line} (lines.Bound bound ∷ []) (lines.Out j octets) → ⊥
  in_bound bound h = ⊎_elim in_none (no_bound bound) (Contains-push_cases [] (lines.Bound bound) (lines.Out j octets) h)

  in_front : (inner : List Line) (turns : ℕ) → Contains (inner ++ lines.Idle turns ∷ []) (lines.Out j octets) → Contains inner (lines.Out j octets)
  in_front inner turns h = ⊎_elim (λ among. among) (λ last. absurd (no_idle turns last)) (Contains-push_cases inner (lines.Idle turns) (lines.Out j octets) h)

  told_around : (bound turns : ℕ) (inner : List Line) → Contains (around bound inner turns) (lines.Out j octets) → Contains inner (lines.Out j octets)
  told_around bound turns inner h =
      ⊎_elim (λ first. absurd (in_bound bound first)) (in_front inner turns) (Contains-append_cases (lines.Bound bound ∷ []) (inner ++ lines.Idle turns ∷ []) (lines.Out j octets) h)

  told_within : (bound turns : ℕ) (inner : List Line) → Contains inner (lines.Out j octets) → Contains (around bound inner turns) (lines.Out j octets)
  told_within bound turns inner h =
      Contains-append_right (lines.Bound bound ∷ []) (inner ++ lines.Idle turns ∷ []) (lines.Out j octets) (Contains-append_left inner (lines.Idle turns ∷ []) (lines.Out j octets) h)

-- a number that fits can be printed
bound_printed : (p : Printing) (bound : ℕ) → bound < 2 ^ 128 → IsPrinted p (lines.Bound bound)
bound_printed p bound fits = record { short = record { ranges = fits; values = tt; octets = omega arith }; told = tt }

idle_printed : (p : Printing) (turns : ℕ) → turns < 2 ^ 128 → IsPrinted p (lines.Idle turns)
idle_printed p turns fits = record { short = record { ranges = fits; values = tt; octets = omega arith }; told = tt }

all_in_front : (P : Line → Type 0) (xs ys : List Line) → AllByRecursion P (xs ++ ys) → AllByRecursion P xs
all_in_front P [] ys h = tt
all_in_front P (x ∷ xs) ys h = (h.0, all_in_front P xs ys h.1)

-- what an idle did, with other numbers around it, or none
unwraps : (bound turns : ℕ) (inner : List Line) → IsShare (around bound inner turns) inner
unwraps bound turns inner = record {
  entries = sym (entries_around bound turns inner);
  heard = λ profile peers v v' h. heard_around profile peers turns v' bound inner v h;
  told = λ j octets h. told_around j octets bound turns inner h;
  printed = λ p h. all_in_front (IsPrinted p) inner (lines.Idle turns ∷ []) h.1;
}

wraps : (bound turns : ℕ) (inner : List Line) → bound < 2 ^ 128 → turns < 2 ^ 128 → IsShare inner (around bound inner turns)
wraps bound turns inner few fewer = record {
  entries = entries_around bound turns inner;
  heard = λ profile peers v v' h. heard_within profile peers turns v' bound inner v h;
  told = λ j octets h. told_within j octets bound turns inner h;
  printed = λ p h. (bound_printed p bound few, all_append (IsPrinted p) inner (lines.Idle turns ∷ []) h (idle_printed p turns fewer, tt));
}

-- ---- how an idle is counted
last_one : (xs ys : List Line) (a b : Line) → xs ++ a ∷ [] ≡ ys ++ b ∷ [] → (xs ≡ ys) × (a ≡ b)
last_one [] [] a b e = (refl, cc)
last_one [] (y ∷ ys) a b e = absurd (omega (arith, ap length e, length-append ys (b ∷ [])))
last_one (x ∷ xs) [] a b e = absurd (omega (arith, ap length e, length-append xs (a ∷ [])))
last_one (x ∷ xs) (y ∷ ys) a b e =
    let first : x ≡ y = cc in
    let rest : xs ++ a ∷ [] ≡ ys ++ b ∷ [] = cc in
    let same = last_one xs ys a b rest in
    (λ i. first i ∷ same.0 i, same.1)

around_one : (b c t s : ℕ) (xs ys : List Line) → around b xs t ≡ around c ys s → (b ≡ c) × (xs ≡ ys) × (t ≡ s)
around_one b c t s xs ys e =
    let first : ◌≡◌ {A = Line} (lines.Bound b) (lines.Bound c) = cc in
    let rest : xs ++ lines.Idle t ∷ [] ≡ ys ++ lines.Idle s ∷ [] = cc in
    let same = last_one xs ys (lines.Idle t) (lines.Idle s) rest in
    let last : ◌≡◌ {A = Line} (lines.Idle t) (lines.Idle s) = same.1 in
    (cc, same.0, cc)

-- the lines leave no choice
pub counts_one : (own : List Line) (b c t s : ℕ) (xs ys : List Line) → CountsIdle own b xs t → CountsIdle own c ys s → (b ≡ c) × (xs ≡ ys) × (t ≡ s)
counts_one [] b c t s xs ys f g = (f.0 ∙ sym g.0, f.1 ∙ sym g.1, f.2 ∙ sym g.2)
counts_one (line ∷ more) b c t s xs ys f g = around_one b c t s xs ys (sym f ∙ g)

joins_one : (own own6 : List Line) (one other : List FamilyLine) → JoinsIdles own own6 one → JoinsIdles own own6 other → one ≡ other
joins_one own own6 one other f g =
    let a = counts_one own f.bound g.bound f.turns g.turns f.inner g.inner f.counts g.counts in
    let b = counts_one own6 f.bound6 g.bound6 f.turns6 g.turns6 f.inner6 g.inner6 f.counts6 g.counts6 in
    f.lines ∙ (λ i. of_family false (lines.Bound (a.0 i + b.0 i) ∷ a.1 i) ++ (of_family true (b.1 i) ++ of_family false (lines.Idle (a.2 i + b.2 i) ∷ []))) ∙ sym g.lines

pub joined_one : (idle : Bool) (own own6 : List Line) (one other : List FamilyLine) → AreJoined idle own own6 one → AreJoined idle own own6 other → one ≡ other
joined_one true own own6 one other f g = joins_one own own6 one other f g
joined_one false own own6 one other f g = f ∙ sym g

-- it takes no more turns than it announces
abbrev pub IsWithin : List Line → Type 0
IsWithin own = (bound turns : ℕ) (inner : List Line) → CountsIdle own bound inner turns → turns ≤ bound

inner_shares : (own : List Line) (bound turns : ℕ) (inner : List Line) → CountsIdle own bound inner turns → IsShare own inner
inner_shares [] bound turns inner counts = share_as [] inner counts.1
inner_shares (line ∷ more) bound turns inner counts = subst (λ (own : List Line). IsShare own inner) (sym counts) (unwraps bound turns inner)

none_inner : (own : List Line) (bound turns : ℕ) (inner : List Line) → own ≡ [] → CountsIdle own bound inner turns → inner ≡ []
none_inner own bound turns inner none counts = (let c : CountsIdle [] bound inner turns = subst (λ (ls : List Line). CountsIdle ls bound inner turns) none counts in c.1)

-- ---- the lines of each among those of both
-- what the joined lines say of each network
pub record AreShares (own own6 : List Line) (all : List FamilyLine) : Type 0 where
  pub first : IsShare own (lines_in false all)
  pub second : IsShare own6 (lines_in true all)
  pub none : own6 ≡ [] → lines_in true all ≡ []

pub first_behind : (own own6 : List Line) → lines_in false (of_family false own ++ of_family true own6) ≡ own
first_behind own own6 = lines_in_append false (of_family false own) (of_family true own6) ∙ ((λ i. lines_of_own false own i ++ lines_of_other true own6 i) ∙ append-nil own)

pub second_behind : (own own6 : List Line) → lines_in true (of_family false own ++ of_family true own6) ≡ own6
second_behind own own6 = lines_in_append true (of_family false own) (of_family true own6) ∙ (λ i. lines_of_other false own i ++ lines_of_own true own6 i)

first_around : (a b c : List Line) → lines_in false (of_family false a ++ (of_family true b ++ of_family false c)) ≡ a ++ c
first_around a b c =
    lines_in_append false (of_family false a) (of_family true b ++ of_family false c)
    ∙ (λ i. lines_of_own false a i ++ lines_in_append false (of_family true b) (of_family false c) i)
    ∙ (λ i. a ++ (lines_of_other true b i ++ lines_of_own false c i))

second_around : (a b c : List Line) → lines_in true (of_family false a ++ (of_family true b ++ of_family false c)) ≡ b
second_around a b c =
    lines_in_append true (of_family false a) (of_family true b ++ of_family false c)
    ∙ (λ i. lines_of_other false a i ++ lines_in_append true (of_family true b) (of_family false c) i)
    ∙ (λ i. lines_of_own true b i ++ lines_of_other false c i)
    ∙ append-nil b

behind_shares : (own own6 : List Line) (all : List FamilyLine) → all ≡ of_family false own ++ of_family true own6 → AreShares own own6 all
behind_shares own own6 all is = record {
  first = share_as own (lines_in false all) (ap (lines_in false) is ∙ first_behind own own6);
  second = share_as own6 (lines_in true all) (ap (lines_in true) is ∙ second_behind own own6);
  none = λ none. ap (lines_in true) is ∙ second_behind own own6 ∙ none;
}

idle_shares : (own own6 : List Line) (all : List FamilyLine) → IsWithin own → IsWithin own6 → JoinsIdles own own6 all → AreShares own own6 all
idle_shares own own6 all within within6 j =
    let front = lines.Bound (j.bound + j.bound6) ∷ j.inner in
    let last = lines.Idle (j.turns + j.turns6) ∷ [] in
    let of_first : lines_in false all ≡ around (j.bound + j.bound6) j.inner (j.turns + j.turns6) = ap (lines_in false) j.lines ∙ first_around front j.inner6 last in
    let of_second : lines_in true all ≡ j.inner6 = ap (lines_in true) j.lines ∙ second_around front j.inner6 last in
    let few : j.turns + j.turns6 < 2 ^ 128 = omega (arith, within j.bound j.turns j.inner j.counts, within6 j.bound6 j.turns6 j.inner6 j.counts6, j.fits) in
    record {
      first = subst (IsShare own) (sym of_first) (share_then own j.inner (around (j.bound + j.bound6) j.inner (j.turns + j.turns6)) (inner_shares own j.bound j.turns j.inner j.counts) (wraps (j.bound + j.bound6) (j.turns + j.turns6) j.inner j.fits few));
      second = subst (IsShare own6) (sym of_second) (inner_shares own6 j.bound6 j.turns6 j.inner6 j.counts6);
      none = λ none. of_second ∙ none_inner own6 j.bound6 j.turns6 j.inner6 none j.counts6;
    }

pub joined_shares : (idle : Bool) (own own6 : List Line) (all : List FamilyLine) → (idle ≡ true → IsWithin own × IsWithin own6) → AreJoined idle own own6 all → AreShares own own6 all
joined_shares true own own6 all within j = idle_shares own own6 all (within refl).0 (within refl).1 j
joined_shares false own own6 all within j = behind_shares own own6 all j
