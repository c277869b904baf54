-- What one region's part does, whatever the others have.
use Rattle.std.proofs.Common.{◌≡◌, ℕ, nat_eq, Bool, true, false, cond, List, [], ◌∷◌, ◌++◌, Option, Some, None, refl, sym, ap, ◌∙◌, subst, arith}
use Rattle.std.proofs.lemmas.Bool.Decides.{nat_tests}
use Rattle.link_change.specs.Rows.{Rows, no_rows}
use Rattle.link_change.proofs.RowLemmas.{same_function}
use Rattle.journal_text.specs.declared.link.Link.{Link}
use Rattle.journal_text.specs.Lines.{Entry}
use Rattle.journal_text.specs.declared.entry.Entry.TheVariants.{Begin}
use Rattle.journal_text.specs.Lines.{Value}
use Rattle.journal_text.specs.Links.{same_link}
use Rattle.journal_text.specs.Walk.{Links, with_link, Leads}
use Rattle.journal_text.proofs.LinkLemmas.{same_link-yes}
use Rattle.journal_text.proofs.WalkLemmas.{leads_nowhere, leads_append, leads_begin}
use Rattle.link_region.specs.declared.regions.Region.{Region}
use Rattle.link_region.specs.declared.regions.Region.TheVariants.{Inward, Resolved, Decided, InteriorRoutes, Redistributed, External, Forward, Outward}
use Rattle.link_region.specs.Regions.{region_of, region_number, Sides, joined, with_side, LeadsIn}

-- by a test, with what it came to
pub by_bool : (b : Bool) (P : Bool → Type 0) → (b ≡ true → P true) → (b ≡ false → P false) → P b
by_bool true P yes_so no_so = yes_so refl
by_bool false P yes_so no_so = no_so refl

equal_numbers : (m n : ℕ) → nat_eq m n ≡ true → m ≡ n
equal_numbers m n e = grind (arith, nat_tests)

abbrev region_by : ℕ → Region
region_by n = cond (nat_eq n 0) Inward (cond (nat_eq n 1) Resolved (cond (nat_eq n 2) Decided (cond (nat_eq n 3) InteriorRoutes (cond (nat_eq n 4) Redistributed (cond (nat_eq n 5) External (cond (nat_eq n 6) Forward Outward))))))

region_back : (r : Region) → region_by (region_number r) ≡ r
region_back Inward = refl
region_back other = refl

same_region : (a b : Region) → nat_eq (region_number a) (region_number b) ≡ true → a ≡ b
same_region a b e = sym (region_back a) ∙ ap region_by (equal_numbers (region_number a) (region_number b) e) ∙ region_back b

itself : (r : Region) → nat_eq (region_number r) (region_number r) ≡ true
itself Inward = refl
itself other = refl

-- ---- another part in one region
pub with_side_here : (sides : Sides) (r : Region) (links : Links Value) → with_side sides r links r ≡ links
with_side_here sides r links = ap (λ (b : Bool). cond b links (sides r)) (itself r)

pub with_side_same : (sides : Sides) (r : Region) (links : Links Value) → sides r ≡ links → with_side sides r links ≡ sides
with_side_same sides r links is = same_function _ _ (λ s.
    by_bool (nat_eq (region_number s) (region_number r)) (λ b. cond b links (sides s) ≡ sides s) (λ e. sym is ∙ ap sides (sym (same_region s r e))) (λ _. refl))

pub with_side_twice : (sides : Sides) (r : Region) (x y : Links Value) → with_side (with_side sides r x) r y ≡ with_side sides r y
with_side_twice sides r x y = same_function _ _ (λ s. elim (nat_eq (region_number s) (region_number r)) as (λ b. cond b y (cond b x (sides s)) ≡ cond b y (sides s)) [ true ↦ refl | false ↦ refl ])

-- a link of a region is set in the region's part
joined_set : (sides : Sides) (r : Region) (old : Links Value) (link : Link) (rows : Option (Rows Value)) → sides r ≡ old → region_of link ≡ r
    → with_link (joined sides) link rows ≡ joined (with_side sides r (with_link old link rows))
joined_set sides r old link rows is there = same_function _ _ (λ q.
    by_bool (nat_eq (region_number (region_of q)) (region_number r)) (λ b. cond (same_link q link) rows (sides (region_of q) q) ≡ (cond b (with_link old link rows) (sides (region_of q))) q)
    (λ e. ap (λ (o : Option (Rows Value)). cond (same_link q link) rows o) (ap (λ s. sides s q) (same_region (region_of q) r e) ∙ ap (λ (l : Links Value). l q) is))
    (λ other. by_bool (same_link q link) (λ b. cond b rows (sides (region_of q) q) ≡ sides (region_of q) q)
    (λ e. let clash : true ≡ false = sym (itself r) ∙ ap (λ (s : Region). nat_eq (region_number s) (region_number r)) (sym (ap region_of (same_link-yes q link e) ∙ there)) ∙ other in cc)
    (λ _. refl)))

-- ---- entries of one region
pub lead_nothing : (r : Region) (old new : Links Value) → new ≡ old → LeadsIn r old [] new
lead_nothing r old new same sides is = leads_nowhere _ _ (ap joined (sym (with_side_same sides r new (is ∙ sym same))))

pub lead_join : (r : Region) (a b c : Links Value) (xs ys : List (Entry Value)) → LeadsIn r a xs b → LeadsIn r b ys c → LeadsIn r a (xs ++ ys) c
lead_join r a b c xs ys first next sides is =
    leads_append _ _ _ xs ys (first sides is)
    (subst (λ (s : Sides). Leads (joined (with_side sides r b)) ys (joined s)) (with_side_twice sides r b c) (next (with_side sides r b) (with_side_here sides r b)))

-- a link of the region begins
pub lead_begin : (r : Region) (old new : Links Value) (link : Link) → region_of link ≡ r → old link ≡ None → with_link old link (Some no_rows) ≡ new → LeadsIn r old (Begin link ∷ []) new
lead_begin r old new link there free is sides at =
    subst (λ (l : Links Value). Leads (joined sides) (Begin link ∷ []) l) (joined_set sides r old link (Some no_rows) at there ∙ ap (λ (l : Links Value). joined (with_side sides r l)) is)
    (leads_begin (joined sides) link (ap (λ s. sides s link) there ∙ ap (λ (l : Links Value). l link) at ∙ free))
