-- Changes at one prefix on the first of some links that are all different.
use Rattle.std.proofs.Common.{◌≡◌, true, false, List, [], ◌∷◌, Option, Some, None, refl, sym, ap, subst, ◌∙◌}
use Rattle.std.specs.List.{AllByRecursion}
use Rattle.std.specs.Option.{option_map}
use Rattle.std.proofs.lemmas.Map.Keys.{IsDistinct-head, IsDistinct-tail}
use Rattle.addr4.specs.Prefixes.{AddressPrefix}
use Rattle.link_change.specs.Rows.{Rows, with_row}
use Rattle.link_change.specs.Changes.{Change}
use Rattle.journal_text.specs.Links.{same_link}
use Rattle.journal_text.specs.declared.link.Link.{Link}
use Rattle.journal_text.specs.Lines.{Entry}
use Rattle.journal_text.specs.Lines.{Value}
use Rattle.journal_text.specs.Falls.{IsWhole, IsCut, GoesDown}
use Rattle.journal_text.specs.Walk.{Links, HasRow, IsLawful, after, fold_links, Leads}
use Rattle.journal_text.proofs.LinkLemmas.{same_link-refl}
use Rattle.journal_text.proofs.WalkLemmas.{with_link_apart}
use Rattle.chain_determinism.specs.Fronts.{IsFront, AreDifferent}
use Rattle.chain_determinism.specs.Laws.{FrontIsOne, FallIsOne}
use Rattle.chain_determinism.proofs.EntryLemmas.{ChangesRow, changes_row, row_is_one, row_set, entry_is_one}

-- links that are told apart are not the same
never_same : (a b : Link) → same_link a b ≡ false → b ≡ a → ⊥
never_same a b apart same = let clash : true ≡ false = sym (same_link-refl a) ∙ ap (same_link a) (sym same) ∙ apart in cc

-- a link that is none of the way keeps its rows
kept : (p : AddressPrefix) (link : Link) (way : List Link) (links : Links Value) (es : List (Entry Value)) → AllByRecursion (λ other. same_link link other ≡ false) way → IsFront p way es → IsLawful links es
    → fold_links links es link ≡ links link
kept p link [] links [] apart front lawful = refl
kept p link [] links (e ∷ es) apart front lawful = absurd front
kept p link (l ∷ way) links [] apart front lawful = refl
kept p link (l ∷ way) links (e ∷ es) apart front lawful =
    let changes = changes_row links l p e front.0 lawful.0 in
    kept p link way (after links e) es apart.1 front.1 lawful.1
    ∙ ap (λ (x : Links Value). x link) changes.makes
    ∙ with_link_apart links l link (option_map (λ (rows : Rows Value). with_row rows p changes.now) (links l)) (never_same link l apart.0)

-- the row that the first change leaves stands at the end
end_row : (p : AddressPrefix) (link : Link) (way : List Link) (old new : Links Value) (e : Entry Value) (es : List (Entry Value)) → AreDifferent (link ∷ way) → IsFront p way es
    → (changes : ChangesRow old link p e) → Leads (after old e) es new → HasRow new link p changes.now
end_row p link way old new e es different front changes leads =
    let set = row_set old link p changes.before changes.now changes.stands in
    let at : new link ≡ after old e link = ap (λ (x : Links Value). x link) (sym leads.ends) ∙ kept p link way (after old e) es (IsDistinct-head same_link link way different) front leads.lawful in
    (set.0, at ∙ ap (λ (x : Links Value). x link) changes.makes ∙ set.1, set.2)

-- a change on a link is none that leaves its rows
never_both : (p : AddressPrefix) (link : Link) (way : List Link) (old new : Links Value) (e : Entry Value) (es : List (Entry Value)) → AreDifferent (link ∷ way) → IsFront p (link ∷ way) (e ∷ es)
    → Leads old [] new → Leads old (e ∷ es) new → ⊥
never_both p link way old new e es different front stays leads =
    let changes = changes_row old link p e front.0 leads.lawful.0 in
    let now = end_row p link way old new e es different front.1 changes record { lawful = leads.lawful.1; ends = leads.ends } in
    changes.differs (row_is_one new link p changes.now changes.before now (subst (λ (x : Links Value). HasRow x link p changes.before) stays.ends changes.stands))

-- such changes that lead from the same rows to the same ones are one
pub front_is_one : FrontIsOne
front_is_one p [] old new [] [] different first second leads also = refl
front_is_one p [] old new [] (f ∷ fs) different first second leads also = absurd second
front_is_one p [] old new (e ∷ es) other different first second leads also = absurd first
front_is_one p (link ∷ way) old new [] [] different first second leads also = refl
front_is_one p (link ∷ way) old new [] (f ∷ fs) different first second leads also = absurd (never_both p link way old new f fs different second leads also)
front_is_one p (link ∷ way) old new (e ∷ es) [] different first second leads also = absurd (never_both p link way old new e es different first also leads)
front_is_one p (link ∷ way) old new (e ∷ es) (f ∷ fs) different first second leads also =
    let one = changes_row old link p e first.0 leads.lawful.0 in
    let other = changes_row old link p f second.0 also.lawful.0 in
    let rest : Leads (after old e) es new = record { lawful = leads.lawful.1; ends = leads.ends } in
    let also_rest : Leads (after old f) fs new = record { lawful = also.lawful.1; ends = also.ends } in
    let before = row_is_one old link p one.before other.before one.stands other.stands in
    let now = row_is_one new link p one.now other.now (end_row p link way old new e es different first.1 one rest) (end_row p link way old new f fs different second.1 other also_rest) in
    let here : e ≡ f = entry_is_one old link p e f one other before now in
    let later : es ≡ fs = front_is_one p way (after old e) new es fs (IsDistinct-tail same_link link way different) first.1 second.1 rest
    (subst (λ (x : Entry Value). Leads (after old x) fs new) (sym here) also_rest) in
    (λ i. here i ∷ later i)

-- ---- what goes down a way
-- one change on each link is one on each of the first links,
whole_front : (p : AddressPrefix) (way : List Link) (es : List (Entry Value)) → IsWhole p way es → IsFront p way es
whole_front p [] [] whole = tt
whole_front p [] (e ∷ es) whole = absurd whole
whole_front p (link ∷ way) [] whole = absurd whole
whole_front p (link ∷ way) (e ∷ es) whole = (whole.0, whole_front p way es whole.1)

-- so are those that go no further than some link,
cut_front : (p : AddressPrefix) (way : List Link) (es : List (Entry Value)) → IsCut p way es → IsFront p way es
cut_front p [] es cut = absurd cut
cut_front p (link ∷ way) [] cut = tt
cut_front p (link ∷ way) (e ∷ es) cut = (cut.0, cut_front p way es cut.1)

module _ {R : Type 0} where
  -- and so is what goes down a way, whatever comes out at its end;
  down_front : (p : AddressPrefix) (way : List Link) (sent : Option (Change R)) (es : List (Entry Value)) → GoesDown p way sent es → IsFront p way es
  down_front p way None es down = cut_front p way es down
  down_front p way (Some change) es down = whole_front p way es down.1

  -- which leaves no choice
  pub fall_is_one : FallIsOne R
  fall_is_one p way old new sent other_sent one other different first second leads also =
      front_is_one p way old new one other different (down_front p way sent one first) (down_front p way other_sent other second) leads also
