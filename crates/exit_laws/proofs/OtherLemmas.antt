-- Entries that lead whatever the outgoing links of peers are begin and end none of them.
use Rattle.std.proofs.Common.{◌≡◌, ℕ, ◌==◌, Bool, true, false, cond, List, [], ◌∷◌, Option, Some, None, IsSome, is_some, refl, sym, ap, subst, ◌∙◌}
use Rattle.link_change.specs.Rows.{Rows, no_rows}
use Rattle.journal_text.specs.Links.{same_link}
use Rattle.journal_text.specs.Walk.{Links, with_link, Demands, after, IsLawful}
use Rattle.journal_text.specs.Lines.{Entry}
use Rattle.journal_text.specs.declared.entry.Entry.TheVariants.{Begin, Inherit, Add, Delete, Replace, Asked, Weld, End}
use Rattle.journal_text.specs.declared.line.Line.TheVariants.{Journal}
use Rattle.journal_text.specs.declared.link.Link.{Link}
use Rattle.journal_text.specs.declared.link.Link.TheVariants.{Adv}
use Rattle.journal_text.specs.Lines.{Value}
use Rattle.link_region.specs.declared.regions.Region.{Region}
use Rattle.link_region.specs.declared.regions.Region.TheVariants.{Outward}
use Rattle.link_region.specs.Regions.{region_number, Sides, joined, with_side}
use Rattle.link_region.proofs.RegionLemmas.{with_side_here}
use Rattle.exit_laws.specs.Views.{is_heard, AreUnheard, entry_lines}
use Rattle.exit_laws.specs.Laws.{OthersAreUnheard}

-- every `adv.J.S` is live, or none is
abbrev AllLive : Links Value → Type 0
AllLive links = (j s : ℕ) → IsSome (links (Adv j s))

abbrev NoneLive : Links Value → Type 0
NoneLive links = (j s : ℕ) → links (Adv j s) ≡ None

abbrev is_adv : Link → Bool
is_adv (Adv j s) = true
is_adv other = false

-- a link that isn't live is none of them, where all are live; nor is one that is, where none is
dead_is_other : (links : Links Value) → AllLive links → (link : Link) → links link ≡ None → is_adv link ≡ false
dead_is_other links live (Adv j s) dead = absurd (let on : is_some (links (Adv j s)) ≡ true = live j s in let off : is_some (links (Adv j s)) ≡ false = ap is_some dead in let clash : true ≡ false = sym on ∙ off in cc)
dead_is_other links live other dead = refl

live_is_other : (links : Links Value) → NoneLive links → (link : Link) → IsSome (links link) → is_adv link ≡ false
live_is_other links none (Adv j s) live = absurd (let on : is_some (links (Adv j s)) ≡ true = live in let off : is_some (links (Adv j s)) ≡ false = ap is_some (none j s) in let clash : true ≡ false = sym on ∙ off in cc)
live_is_other links none other live = refl

has_rows : (links : Links Value) → NoneLive links → (link : Link) (rows : Rows Value) → links link ≡ Some rows → is_adv link ≡ false
has_rows links none link rows is = live_is_other links none link (ap is_some is)

-- ---- what an entry leaves
apart : (link : Link) (j s : ℕ) → is_adv link ≡ false → same_link (Adv j s) link ≡ false
apart (Adv k t) j s e = absurd (let clash : true ≡ false = e in cc)
apart other j s e = refl

module _ (links : Links Value) (link : Link) (other : is_adv link ≡ false) (rows : Option (Rows Value)) where
  stays : (j s : ℕ) → with_link links link rows (Adv j s) ≡ links (Adv j s)
  stays j s = ap (λ (b : Bool). cond b rows (links (Adv j s))) (apart link j s other)

  stay_live : AllLive links → AllLive (with_link links link rows)
  stay_live live j s = subst (λ (o : Option (Rows Value)). IsSome o) (sym (stays j s)) (live j s)

  stay_dead : NoneLive links → NoneLive (with_link links link rows)
  stay_dead none j s = stays j s ∙ none j s

begin_unheard : (link : Link) → is_adv link ≡ false → is_heard (Journal (Begin link)) ≡ false
begin_unheard (Adv j s) e = absurd (let clash : true ≡ false = e in cc)
begin_unheard other e = refl

end_unheard : (link : Link) → is_adv link ≡ false → is_heard (Journal (End link)) ≡ false
end_unheard (Adv j s) e = absurd (let clash : true ≡ false = e in cc)
end_unheard other e = refl

-- nobody hears anything by the entry, and all are live, or none is, as before
record Passes (a b : Links Value) (entry : Entry Value) : Type 0 where
  unheard : is_heard (Journal entry) ≡ false
  live : AllLive (after a entry)
  none : NoneLive (after b entry)

passes : (a b : Links Value) (entry : Entry Value) → AllLive a → NoneLive b → Demands a entry → Demands b entry → Passes a b entry
passes a b (Begin link) live none in_a in_b =
    let other = dead_is_other a live link in_a in
    record { unheard = begin_unheard link other; live = stay_live a link other (Some no_rows) live; none = stay_dead b link other (Some no_rows) none }
passes a b (Inherit link from) live none in_a in_b =
    let other = dead_is_other a live link in_a.0 in
    record { unheard = refl; live = stay_live a link other (a from) live; none = stay_dead b link other (b from) none }
passes a b (Add link p new) live none in_a in_b =
    let other = has_rows b none link in_b.0 in_b.1 in
    record { unheard = refl; live = stay_live a link other _ live; none = stay_dead b link other _ none }
passes a b (Delete link p old) live none in_a in_b =
    let other = has_rows b none link in_b.0 in_b.1 in
    record { unheard = refl; live = stay_live a link other _ live; none = stay_dead b link other _ none }
passes a b (Replace link p old new) live none in_a in_b =
    let other = has_rows b none link in_b.0.0 in_b.0.1 in
    record { unheard = refl; live = stay_live a link other _ live; none = stay_dead b link other _ none }
passes a b (Asked link p row) live none in_a in_b = record { unheard = refl; live = live; none = none }
passes a b (Weld upper lower) live none in_a in_b =
    let other = has_rows b none upper in_b.1.0 in_b.1.1 in
    record { unheard = refl; live = stay_live a upper other None live; none = stay_dead b upper other None none }
passes a b (End link) live none in_a in_b =
    let other = live_is_other b none link in_b in
    record { unheard = end_unheard link other; live = stay_live a link other None live; none = stay_dead b link other None none }

walked : (a b : Links Value) (entries : List (Entry Value)) → AllLive a → NoneLive b → IsLawful a entries → IsLawful b entries → AreUnheard (entry_lines entries)
walked a b [] live none in_a in_b = tt
walked a b (entry ∷ entries) live none in_a in_b =
    let here = passes a b entry live none in_a.0 in_b.0 in
    (here.unheard, walked (after a entry) (after b entry) entries here.live here.none in_a.1 in_b.1)

-- ---- of another region
module _ (region : Region) (old : Links Value) where
  joined_at : (rows : Option (Rows Value)) → (region_number Outward == region_number region) ≡ false → (j s : ℕ) → joined (with_side (λ s link. rows) region old) (Adv j s) ≡ rows
  joined_at rows other j s = ap (λ (b : Bool). cond b old (λ (link : Link). rows) (Adv j s)) other

pub others_are_unheard : OthersAreUnheard
others_are_unheard region old new entries other leads =
    let live_sides : Sides = with_side (λ s link. Some no_rows) region old in
    let dead_sides : Sides = with_side (λ s link. None) region old in
    walked (joined live_sides) (joined dead_sides) entries
    (λ j s. ap is_some (joined_at region old (Some no_rows) other j s))
    (λ j s. joined_at region old None other j s)
    (leads live_sides (with_side_here (λ s link. Some no_rows) region old)).lawful
    (leads dead_sides (with_side_here (λ s link. None) region old)).lawful
