-- What the descents to a key and to the next one find.
use Rattle.std.proofs.Common.{◌≡◌, ℕ, ◌+◌, ◌-◌, ◌%◌, ◌^◌, ◌<◌, ◌≤◌, true, false, Option, Some, None, IsSome, is_some, option_map, option_and_then, refl, sym, ap, subst, ◌∙◌, inl, inr, arith}
use Rattle.std.proofs.lemmas.Bool.{cases_eq, cases_lt}
use Rattle.slab.specs.Slab.{Slab, get, ContainsKey}
use Rattle.addr4.specs.Places.{IsBeyond}
use Rattle.addr4.specs.Prefixes.{AddressPrefix}
use Rattle.addr4.proofs.RankLemmas.{before_is, is_before}
use Rattle.addr4.proofs.HalfLemmas.{one_address_prefix}
use Rattle.nibble_trie.specs.Leaves.{Node}
use Rattle.nibble_trie.specs.declared.link.Link.{Link}
use Rattle.nibble_trie.specs.declared.link.Target.{Target}
use Rattle.nibble_trie.specs.declared.link.Target.TheVariants.{Nothing, Leaf, Inner}
use Rattle.nibble_trie.specs.declared.branch.Branch.{Branch}
use Rattle.nibble_trie.specs.declared.index.Index.{Index}
use Rattle.nibble_trie.specs.declared.index.Spot.{Spot}
use Rattle.nibble_trie.specs.Links.{leads, leaf_of, target_at}
use Rattle.nibble_trie.specs.Keys.{prefix_in, longer_in, IsNextOf, IsSmall, IsChained, HasNext, IsFirstOf, IsFrom, IsOfAddressFrom, IsNextLeaf, IsLeafOf, IsHeadOf, rest_of, rest_behind}
use Rattle.nibble_trie.specs.Index.{Layout, high, IsLaid, is_live, Lies, Fits}
use Rattle.nibble_trie.specs.Next.{FromAt, FromIn, IsStart, Starts, CanStart}
use Rattle.nibble_trie.proofs.Digits.{high_all}
use Rattle.nibble_trie.proofs.Chains.{one_found, later_some}
use Rattle.nibble_trie.proofs.Drops.{under}
use Rattle.nibble_trie.proofs.Ways.{inner_fits, inner_level, leaf_fits, target_some}
use Rattle.nibble_trie.proofs.Firsts.{first_same, not_behind, first_inner, in_found, in_rest}

module _ {V : Type 0} where
  -- a leaf that has a prefix is there
  pub has_leaf : (leaves : Slab (Node V)) (k : ℕ) → IsSome (prefix_in leaves k) → ContainsKey leaves k
  has_leaf leaves k has = by (get leaves k) refl has
    where
      by : (o : Option (Node V)) → get leaves k ≡ o → IsSome (option_map (λ n. n.prefix) o) → ContainsKey leaves k
      by None e h = absurd (let x : is_some {T = AddressPrefix} None ≡ true = h in cc)
      by (Some n) e h = ap is_some e

  pub has_found : (leaves : Slab (Node V)) (k : ℕ) (p : AddressPrefix) → prefix_in leaves k ≡ Some p → ContainsKey leaves k
  has_found leaves k p found = has_leaf leaves k (subst IsSome (sym found) refl)

-- the link behind a shorter leaf
pub behind_next : (keys : ℕ → Option AddressPrefix) (longer : ℕ → Option ℕ) (key length : ℕ) (p : AddressPrefix) (link : Option ℕ) → IsChained keys longer → keys key ≡ Some p → longer key ≡ link → p.length < length → HasNext keys link length
behind_next keys longer key length p link c found is lt = record { address = p.address; from = p.length + 1; within = omega arith; next = subst (λ l. IsNextOf keys p.address (p.length + 1) l) is (c.linked key p found) }

-- fewer lengths are left behind it
pub rest_falls : (keys : ℕ → Option AddressPrefix) (longer : ℕ → Option ℕ) (key : ℕ) (p : AddressPrefix) (link : Option ℕ) → IsChained keys longer → keys key ≡ Some p → p.length ≤ 128 → longer key ≡ link → rest_behind keys link < rest_of (Some p)
rest_falls keys longer key p None c found small is = omega arith
rest_falls keys longer key p (Some m) c found small is =
    let n : IsNextOf keys p.address (p.length + 1) (Some m) = subst (λ l. IsNextOf keys p.address (p.length + 1) l) is (c.linked key p found) in
    subst (λ r. rest_of r < rest_of (Some p)) (sym n.1) (omega (arith, n.3))

-- where an address has no head no prefix has it
headless : (keys : ℕ → Option AddressPrefix) (heads : ℕ → Option ℕ) → ((a : ℕ) → IsNextOf keys a 0 (heads a)) → (a k : ℕ) (p : AddressPrefix) → heads a ≡ None → keys k ≡ Some p → p.address ≡ a → ⊥
headless keys heads shortest a k p none found same = let n : IsNextOf keys a 0 None = subst (λ l. IsNextOf keys a 0 l) none (shortest a) in absurd (omega (arith, n k p found same))

-- ---- the first key
-- a place that leads to nothing has no first
pub nothing_starts : (keys : ℕ → Option AddressPrefix) (index : Index) (heads : ℕ → Option ℕ) (layout : Layout) (at : Option (ℕ × ℕ)) (target : Target) (level from least : ℕ) → Starts keys index heads layout at target level from least → target ≡ Nothing → IsFirstOf keys (FromAt layout at from least) None
nothing_starts keys index heads layout at target level from least s is = λ k p found x.
    headless keys heads s.shortest p.address k p (subst (Fits (is_live index) heads layout at) (s.stands.leads ∙ is) (s.holds.fits at s.stands.place) p.address x.lies) found refl

-- a place's first leaf is the first of its address
pub leaf_starts : (keys : ℕ → Option AddressPrefix) (index : Index) (heads : ℕ → Option ℕ) (layout : Layout) (at : Option (ℕ × ℕ)) (target : Target) (level from least key : ℕ) (r : Option ℕ) → Starts keys index heads layout at target level from least → target ≡ Leaf key → ((a : ℕ) → IsNextOf keys a 0 (Some key) → IsFirstOf keys (IsOfAddressFrom a from least) r) → IsFirstOf keys (FromAt layout at from least) r
leaf_starts keys index heads layout at target level from least key r s is first =
    let f = leaf_fits index heads layout (record { at = at; level = level; target = target }) key s.holds s.stands is in
    first_same keys (IsOfAddressFrom f.0 from least) (FromAt layout at from least) r
    (λ p x. record { lies = subst (λ a. Lies layout at a) (sym x.0) f.1; from = x.1 })
    (λ k p found x. elim (cases_eq p.address f.0) [
      | inl e ↦ (e, x.from)
      | inr n ↦ absurd (headless keys heads s.shortest p.address k p (f.3 p.address x.lies n) found refl)
    ])
    (first f.0 (subst (λ l. IsNextOf keys f.0 0 l) f.2 (s.shortest f.0)))

module _ (keys : ℕ → Option AddressPrefix) (index : Index) (branch level first length : ℕ) where
  -- the first of what is left of a branch from a digit on is the first of the place that leads to it
  abbrev pub IsLeft : ℕ → ℕ → ℕ → Type 0
  IsLeft digit from least = (heads : ℕ → Option ℕ) (layout : Layout) (at : Option (ℕ × ℕ)) → Starts keys index heads layout at (Inner branch) level first length → IsStart layout (Some (branch, digit)) from least × ((r : Option ℕ) → IsFirstOf keys (FromIn layout branch digit from least) r → IsFirstOf keys (FromAt layout at first length) r)

  inner_of : (heads : ℕ → Option ℕ) (layout : Layout) (at : Option (ℕ × ℕ)) → Starts keys index heads layout at (Inner branch) level first length → Fits (is_live index) heads layout at (Inner branch) × (layout.level branch ≡ level - 1) × (0 < level)
  inner_of heads layout at s =
      let spot : Spot = record { at = at; level = level; target = Inner branch } in
      let e = inner_level index heads layout spot branch s.holds s.stands refl in
      (inner_fits index heads layout spot branch s.holds s.stands refl, omega arith, omega arith)

  -- a digit is left below a place that leads to a branch
  pub inner_deep : CanStart keys index (Inner branch) level first length → 0 < level
  inner_deep s = (inner_of s.heads s.layout s.at s.starts).2

  pub left_first : (digit : ℕ) → digit ≡ high (level - 1) first % 16 → IsLeft digit first length
  left_first digit is = subst (λ d. IsLeft d first length) (sym is) (λ heads layout at s.
      let i = inner_of heads layout at s in (
        elim s.start [
          | inl all ↦ inl all
          | inr here ↦ inr (subst (λ n. Lies layout (Some (branch, high n first % 16)) first) i.1 (under (is_live index) heads layout at branch first i.0 here))
        ],
        first_inner keys (is_live index) heads layout at branch first length (level - 1) i.0 i.1 s.start,
      ))

  module _ (digit from least : ℕ) (small : digit < 16) (links : Branch) (link : Link) (found : get index.branches branch ≡ Some links) (is : leads link ≡ target_at links digit) (left : IsLeft digit from least) where
    starts_digit : (heads : ℕ → Option ℕ) (layout : Layout) (at : Option (ℕ × ℕ)) → Starts keys index heads layout at (Inner branch) level first length → Starts keys index heads layout (Some (branch, digit)) (leads link) (level - 1) from least
    starts_digit heads layout at s =
        let i = inner_of heads layout at s in
        record {
          holds = s.holds;
          shortest = s.shortest;
          stands = record { place = (i.0.0, small); level = i.1; leads = target_some _ _ digit found ∙ sym is; short = omega (arith, s.stands.short) };
          start = (left heads layout at s).0;
        }

    pub can_start_digit : CanStart keys index (Inner branch) level first length → CanStart keys index (leads link) (level - 1) from least
    can_start_digit s = record { heads = s.heads; layout = s.layout; at = Some (branch, digit); starts = starts_digit s.heads s.layout s.at s.starts }

    module _ (r : Option ℕ) (at_digit : (heads : ℕ → Option ℕ) (layout : Layout) (at : Option (ℕ × ℕ)) → Starts keys index heads layout at (leads link) (level - 1) from least → IsFirstOf keys (FromAt layout at from least) r) where
      pub left_found : is_some r ≡ true → (heads : ℕ → Option ℕ) (layout : Layout) (at : Option (ℕ × ℕ)) → Starts keys index heads layout at (Inner branch) level first length → IsFirstOf keys (FromAt layout at first length) r
      left_found some heads layout at s = (left heads layout at s).1 r (in_found keys layout branch digit from least r small some (at_digit heads layout (Some (branch, digit)) (starts_digit heads layout at s)))

      pub left_next : is_some r ≡ false → IsLeft (digit + 1) 0 0
      left_next none heads layout at s =
          let l = left heads layout at s in
          (inl (refl, refl), λ next rest. l.1 next (in_rest keys layout branch digit from least l.0 r next none (at_digit heads layout (Some (branch, digit)) (starts_digit heads layout at s)) rest))

-- ---- from the root down
pub top_starts : (keys : ℕ → Option AddressPrefix) (index : Index) (heads : ℕ → Option ℕ) (layout : Layout) (from least : ℕ) → IsLaid index heads layout → ((a : ℕ) → IsNextOf keys a 0 (heads a)) → from < 2 ^ 128 → Starts keys index heads layout None (leads index.root) 32 from least
top_starts keys index heads layout from least holds shortest fits = record {
  holds = holds;
  shortest = shortest;
  stands = record { place = tt; level = refl; leads = refl; short = omega arith };
  start = inr (high_all from fits);
}

pub top_first : (keys : ℕ → Option AddressPrefix) (layout : Layout) (from least : ℕ) (r : Option ℕ) → IsSmall keys → IsFirstOf keys (FromAt layout None from least) r → IsFirstOf keys (IsFrom from least) r
top_first keys layout from least r small first = first_same keys (FromAt layout None from least) (IsFrom from least) r (λ p x. x.from) (λ k p found x. record { lies = high_all p.address (small k p found).0; from = x }) first

-- ---- beyond a place
pub from_beyond : (keys : ℕ → Option AddressPrefix) (q : AddressPrefix) (from least : ℕ) (r : Option ℕ) → from ≡ q.address → least ≡ q.length + 1 → IsFirstOf keys (IsFrom from least) r → IsNextLeaf keys (Some q) r
from_beyond keys q from least r same longer first = first_same keys (IsFrom from least) (IsBeyond (Some q)) r
    (λ p x. is_before q p (elim (cases_lt q.address p.address) [
      | inl less ↦ inl less
      | inr le ↦
          let e : p.address ≡ from = omega (arith, x.0) in
          inr (omega arith, omega (arith, x.1 e))
    ]))
    (λ k p found b. elim (before_is q p b) [
      | inl less ↦ (omega arith, λ e. absurd (omega arith))
      | inr more ↦ (omega (arith, more.0), λ e. omega (arith, more.1))
    ]) first

-- a longer one of its address
pub longer_beyond : (keys : ℕ → Option AddressPrefix) (q : AddressPrefix) (r : Option ℕ) → is_some r ≡ true → IsNextOf keys q.address (q.length + 1) r → IsNextLeaf keys (Some q) r
longer_beyond keys q None some next = absurd (let x : is_some {T = ℕ} None ≡ true = some in cc)
longer_beyond keys q (Some key) some next = (
  next.0,
  next.1,
  is_before q next.0 (inr (sym next.2, omega (arith, next.3))),
  λ k p found b before. elim (before_is q p b) [
    | inl less ↦ absurd (omega (arith, next.2, not_behind p next.0 before))
    | inr more ↦ elim (before_is p next.0 before) [
      | inl less ↦ absurd (omega (arith, next.2, more.0))
      | inr same ↦ absurd (omega (arith, same.1, next.4 k p found (sym more.0) (omega (arith, more.1))))
    ]
  ],
)

pub link_rest : (keys : ℕ → Option AddressPrefix) (link : Option ℕ) (key : ℕ) (p : AddressPrefix) (less : ℕ) → link ≡ Some key → keys key ≡ Some p → less < rest_of (Some p) → less < rest_behind keys link
link_rest keys link key p less is found lt = subst (λ l. less < rest_behind keys l) (sym is) (subst (λ r. less < rest_of r) (sym found) lt)

pub sought : (keys : ℕ → Option AddressPrefix) (a length : ℕ) (link : Option ℕ) → IsNextOf keys a length link → HasNext keys link length
sought keys a length link next = record { address = a; from = length; within = omega arith; next = next }

pub leaf_at : (keys : ℕ → Option AddressPrefix) (p : AddressPrefix) (a length : ℕ) (r : Option ℕ) → a ≡ p.address → length ≡ p.length → IsLeafOf keys (record { address = a; length = length }) r → IsLeafOf keys p r
leaf_at keys p a length r ea el leaf = subst (λ q. IsLeafOf keys q r) (one_address_prefix (record { address = a; length = length }) p ea el) leaf

-- the link of a prefix's leaf leads to the next one
pub longer_in_node : {V : Type 0} (leaves : Slab (Node V)) (k : ℕ) (n : Node V) (p : AddressPrefix) (r : Option ℕ) → IsChained (prefix_in leaves) (longer_in leaves) → get leaves k ≡ Some n → prefix_in leaves k ≡ Some p → r ≡ leaf_of (leads n.longer) → IsNextOf (prefix_in leaves) p.address (p.length + 1) r
longer_in_node leaves k n p r chained found is e = subst (λ l. IsNextOf (prefix_in leaves) p.address (p.length + 1) l) (ap (option_and_then (λ (m : Node _). leaf_of (leads m.longer))) found ∙ sym e) (chained.linked k p is)

-- ---- the first leaf of an address, for a prefix of it
-- there is none
pub head_none : (keys : ℕ → Option AddressPrefix) (p : AddressPrefix) → IsNextOf keys p.address 0 None → IsHeadOf keys p None
head_none keys p next = (next, λ k q found same. absurd (omega (arith, next k q found same)))

pub absent_none : (keys : ℕ → Option AddressPrefix) (p : AddressPrefix) → IsNextOf keys p.address 0 None → (k : ℕ) → keys k ≡ Some p → ⊥
absent_none keys p next k found = absurd (omega (arith, next k p found refl))

-- it is longer
pub head_some : (keys : ℕ → Option AddressPrefix) (p : AddressPrefix) (key : ℕ) (q : AddressPrefix) → IsNextOf keys p.address 0 (Some key) → keys key ≡ Some q → p.length ≤ q.length → IsHeadOf keys p (Some key)
head_some keys p key q next found le = (next, later_some keys p.address 0 p.length key q (omega arith) found le next)

pub absent_some : (keys : ℕ → Option AddressPrefix) (p : AddressPrefix) (key : ℕ) (q : AddressPrefix) → IsNextOf keys p.address 0 (Some key) → keys key ≡ Some q → p.length < q.length → (k : ℕ) → keys k ≡ Some p → ⊥
absent_some keys p key q next found lt k there =
    let e : next.0 ≡ q = one_found keys key next.0 q next.1 found in
    absurd (omega (arith, ap (λ x. x.length) e, next.4 k p there refl (omega arith)))

-- its address
pub head_address : (keys : ℕ → Option AddressPrefix) (a key : ℕ) (q : AddressPrefix) → IsNextOf keys a 0 (Some key) → keys key ≡ Some q → q.address ≡ a
head_address keys a key q next found = ap (λ x. x.address) (one_found keys key q next.0 found next.1) ∙ next.2
