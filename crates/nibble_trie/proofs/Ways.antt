-- The way of an address from the root down.
use Rattle.std.proofs.Common.{◌≡◌, ◌≢◌, ℕ, ◌+◌, ◌-◌, ◌%◌, ◌^◌, ◌<◌, ◌≤◌, true, cond, [], get_or, Option, Some, None, is_some, refl, sym, ap, subst, ◌∙◌, arith}
use Rattle.std.proofs.lemmas.Nat.{mod_below}
use Rattle.addr4.specs.Prefixes.{AddressPrefix}
use Rattle.std.proofs.lemmas.Bool.{ne_eqb}
use Rattle.slab.specs.Slab.{Slab, get, ContainsKey}
use Rattle.nibble_trie.specs.declared.link.Target.TheVariants.{Nothing, Leaf, Inner}
use Rattle.nibble_trie.specs.declared.branch.Branch.{Branch}
use Rattle.nibble_trie.specs.declared.index.Index.{Index}
use Rattle.nibble_trie.specs.declared.index.Spot.{Spot}
use Rattle.nibble_trie.specs.declared.index.End.{End}
use Rattle.nibble_trie.specs.declared.link.Link.{Link}
use Rattle.nibble_trie.specs.Links.{leads, IsCell, target_at}
use Rattle.nibble_trie.specs.Index.{Layout, high, IsPlace, is_live, link_at, target_in, Lies, Fits, IsLaid, Names, OnWay, IsSpotOf, spot_at, Stands, HasHeads, IsAbove, IsAlone}
use Rattle.nibble_trie.proofs.Digits.{high_all, some_same}
use Rattle.nibble_trie.proofs.Cells.{alone_of}
use Rattle.nibble_trie.proofs.Drops.{under}

-- what fits a place that the code knows
pub fits_spot : (index : Index) (heads : ℕ → Option ℕ) (layout : Layout) (spot : Spot) → IsLaid index heads layout → Stands index layout spot → Fits (is_live index) heads layout spot.at spot.target
fits_spot index heads layout spot h s = subst (λ t. Fits (is_live index) heads layout spot.at t) s.leads (h.fits spot.at s.place)

pub cell_spot : (index : Index) (layout : Layout) (spot : Spot) → Stands index layout spot → IsCell spot.target → IsCell (link_at index spot.at)
cell_spot index layout spot s cell = subst IsCell (sym s.leads) cell

-- the place below a branch
abbrev pub below : Index → ℕ → ℕ → ℕ → Spot
below index branch a level = record { at = Some (branch, high level a % 16); level = level; target = link_at index (Some (branch, high level a % 16)) }

pub inner_fits : (index : Index) (heads : ℕ → Option ℕ) (layout : Layout) (spot : Spot) (branch : ℕ) → IsLaid index heads layout → Stands index layout spot → spot.target ≡ Inner branch → Fits (is_live index) heads layout spot.at (Inner branch)
inner_fits index heads layout spot branch h s is = subst (λ t. Fits (is_live index) heads layout spot.at t) is (fits_spot index heads layout spot h s)

pub inner_live : (index : Index) (heads : ℕ → Option ℕ) (layout : Layout) (spot : Spot) (branch : ℕ) → IsLaid index heads layout → Stands index layout spot → spot.target ≡ Inner branch → is_live index branch
inner_live index heads layout spot branch h s is = (inner_fits index heads layout spot branch h s is).0

pub inner_level : (index : Index) (heads : ℕ → Option ℕ) (layout : Layout) (spot : Spot) (branch : ℕ) → IsLaid index heads layout → Stands index layout spot → spot.target ≡ Inner branch → spot.level ≡ layout.level branch + 1
inner_level index heads layout spot branch h s is = sym s.level ∙ (inner_fits index heads layout spot branch h s is).1

pub below_way : (index : Index) (heads : ℕ → Option ℕ) (layout : Layout) (a : ℕ) (spot : Spot) (branch : ℕ) → IsLaid index heads layout → spot.target ≡ Inner branch → OnWay index layout a spot → OnWay index layout a (below index branch a (spot.level - 1))
below_way index heads layout a spot branch h is way =
    let f = inner_fits index heads layout spot branch h way.stands is in
    let level : layout.level branch ≡ spot.level - 1 = omega (arith, inner_level index heads layout spot branch h way.stands is) in
    let digit : high (layout.level branch) a % 16 ≡ high (spot.level - 1) a % 16 = ap (λ n. high n a % 16) level in
    record {
      stands = record { place = (f.0, mod_below (high (spot.level - 1) a) 16 (omega arith)); level = level; leads = refl; short = omega (arith, way.stands.short) };
      lies = subst (λ d. Lies layout (Some (branch, d)) a) digit (under (is_live index) heads layout spot.at branch a f way.lies);
    }

-- where a digit of a branch leads
pub target_some : (found : Option Branch) (branch : Branch) (digit : ℕ) → found ≡ Some branch → target_in found digit ≡ target_at branch digit
target_some found branch digit e = ap (λ f. target_in f digit) e

-- ---- where a way ends
pub inner_known : (index : Index) (a : ℕ) (spot : Spot) (branch : ℕ) → HasHeads index → IsSpotOf index a spot → spot.target ≡ Inner branch → is_live index branch × (0 < spot.level) × (spot.level ≤ 32)
inner_known index a spot branch has way is =
    let h = has.indexes.holds in
    let stands = (way has.heads has.indexes.layout h).stands in
    (inner_live index has.heads has.indexes.layout spot branch h stands is, omega (arith, inner_level index has.heads has.indexes.layout spot branch h stands is), stands.short)

pub spot_way : (index : Index) (layout : Layout) (end : End) (p a : ℕ) (spot : Spot) → a ≡ p → spot ≡ spot_at end a → OnWay index layout p (spot_at end p) → OnWay index layout a spot
spot_way index layout end p a spot same is way = subst (OnWay index layout a) (sym is) (subst (λ b. OnWay index layout b (spot_at end b)) (sym same) way)

pub spot_below : (end : End) (a : ℕ) → end.level < 32 → spot_at end a ≡ record { at = Some (end.branch, high end.level a % 16); level = end.level; target = leads end.link }
spot_below end a lt =
    let digit : Option (ℕ × ℕ) = Some (end.branch, high end.level a % 16) in
    ap (λ t. record { at = cond t None digit; level = end.level; target = leads end.link }) (ne_eqb end.level 32 (λ e. absurd (omega arith)))

-- one digit more
pub end_way : (index : Index) (heads : ℕ → Option ℕ) (layout : Layout) (a : ℕ) (end : End) (branch : ℕ) (links : Branch) (link : Link) → IsLaid index heads layout → leads end.link ≡ Inner branch → get index.branches branch ≡ Some links → leads link ≡ target_at links (high (end.level - 1) a % 16) → OnWay index layout a (spot_at end a) → OnWay index layout a (spot_at (record { branch = branch; level = end.level - 1; link = link }) a)
end_way index heads layout a end branch links link h is found leads_to way =
    let level = end.level - 1 in
    let short : level < 32 = omega (arith, way.stands.short, inner_level index heads layout (spot_at end a) branch h way.stands is) in
    let same = target_some _ _ (high level a % 16) found ∙ sym leads_to in
    let there : below index branch a level ≡ record { at = Some (branch, high level a % 16); level = level; target = leads link } = ap (λ t. record { at = Some (branch, high level a % 16); level = level; target = t }) same in
    subst (OnWay index layout a) (there ∙ sym (spot_below (record { branch = branch; level = level; link = link }) a short)) (below_way index heads layout a (spot_at end a) branch h is way)

pub top_way : (index : Index) (layout : Layout) (a : ℕ) → a < 2 ^ 128 → OnWay index layout a (record { at = None; level = 32; target = leads index.root })
top_way index layout a fits = record { stands = record { place = tt; level = refl; leads = refl; short = omega arith }; lies = high_all a fits }

pub leaf_fits : (index : Index) (heads : ℕ → Option ℕ) (layout : Layout) (spot : Spot) (key : ℕ) → IsLaid index heads layout → Stands index layout spot → spot.target ≡ Leaf key → Fits (is_live index) heads layout spot.at (Leaf key)
leaf_fits index heads layout spot key h s is = subst (λ t. Fits (is_live index) heads layout spot.at t) is (fits_spot index heads layout spot h s)

-- the leaf at a place has the address that it stands for
pub named : (keys : ℕ → Option AddressPrefix) (heads : ℕ → Option ℕ) (a key : ℕ) (p : AddressPrefix) → Names keys heads → heads a ≡ Some key → keys key ≡ Some p → p.address ≡ a
named keys heads a key p names has found =
    let n = names a key has in
    let e : n.0 ≡ p = some_same n.0 p (sym n.1 ∙ found) in
    ap (λ q. q.address) (sym e) ∙ n.2

pub head_leaf : (keys : ℕ → Option AddressPrefix) (index : Index) (heads : ℕ → Option ℕ) (layout : Layout) (a : ℕ) (spot : Spot) (key : ℕ) (p : AddressPrefix) → IsLaid index heads layout → Names keys heads → OnWay index layout a spot → spot.target ≡ Leaf key → keys key ≡ Some p → p.address ≡ a → heads a ≡ Some key
head_leaf keys index heads layout a spot key p h names way is found same =
    let f = leaf_fits index heads layout spot key h way.stands is in
    let e : p.address ≡ f.0 = named keys heads f.0 key p names f.2 found in
    ap heads (sym same ∙ e) ∙ f.2

-- ---- where no other address of the place has a leaf
pub alone_nothing : (index : Index) (heads : ℕ → Option ℕ) (layout : Layout) (a : ℕ) (spot : Spot) → IsLaid index heads layout → Stands index layout spot → spot.target ≡ Nothing → IsAlone heads layout spot.at a
alone_nothing index heads layout a spot h s is = λ b lies n. (subst (λ t. Fits (is_live index) heads layout spot.at t) is (fits_spot index heads layout spot h s)) b lies

pub alone_head : (index : Index) (heads : ℕ → Option ℕ) (layout : Layout) (a : ℕ) (spot : Spot) (key : ℕ) → IsLaid index heads layout → OnWay index layout a spot → IsCell spot.target → heads a ≡ Some key → IsAlone heads layout spot.at a
alone_head index heads layout a spot key h way cell has = alone_of (is_live index) heads layout spot.at spot.target a key cell (fits_spot index heads layout spot h way.stands) way.lies has

-- ---- from a branch up
pub above_step : (index : Index) (a branch : ℕ) (spot : Spot) (key : ℕ) → IsAbove index a branch spot → spot.target ≡ Inner key → key ≢ branch → IsAbove index a branch (below index key a (spot.level - 1))
above_step index a branch spot key h is differ = record {
  heads = h.heads;
  layout = h.layout;
  holds = h.holds;
  way = below_way index h.heads h.layout a spot key h.holds is h.way;
  digit = h.digit;
  place = h.place;
  lies = h.lies;
  cell = h.cell;
  not_below = λ other e. differ (ap (λ p. p.0) (some_same _ _ e));
}

pub above_cell : (index : Index) (a branch : ℕ) (spot : Spot) → IsAbove index a branch spot → IsCell spot.target → ⊥
above_cell index a branch spot h cell = h.not_below h.digit (h.holds.apart spot.at (Some (branch, h.digit)) a h.way.stands.place h.place (cell_spot index h.layout spot h.way.stands cell) h.cell h.way.lies h.lies)

-- ---- an index without branches
pub holds_empty : (index : Index) (layout : Layout) → leads index.root ≡ Nothing → ((b : ℕ) → is_live index b → ⊥) → IsLaid index (λ _. None) layout
holds_empty index layout none dead = record {
  fits = fits;
  apart = λ x y a px py cx cy lx ly. only x px ∙ sym (only y py);
  single = λ x y b px py ex ey. only x px ∙ sym (only y py);
}
  where
    only : (x : Option (ℕ × ℕ)) → IsPlace (is_live index) x → x ≡ None
    only None p = refl
    only (Some x) p = absurd (dead x.0 p.0)

    fits : (x : Option (ℕ × ℕ)) → IsPlace (is_live index) x → Fits (is_live index) (λ _. None) layout x (link_at index x)
    fits None p = subst (λ t. Fits (is_live index) (λ _. None) layout None t) (sym none) (λ a l. refl)
    fits (Some x) p = absurd (dead x.0 p.0)

pub none_live : (branches : Slab Branch) → branches.slots ≡ [] → (b : ℕ) → ContainsKey branches b → ⊥
none_live branches empty b live = let clash : is_some {T = Branch} None ≡ true = sym (ap (λ xs. is_some (get_or xs b None)) empty) ∙ live in absurd (cc)
