-- What the code writes into an index.
use Rattle.std.proofs.Common.{◌≡◌, ◌≢◌, ℕ, ◌+◌, ◌%◌, ◌<◌, true, false, Option, Some, None, IsSome, is_some, cond, nat_eq, refl, sym, ap, subst, ◌∙◌, inl, inr, arith}
use Rattle.std.proofs.lemmas.Nat.{mod_below}
use Rattle.std.proofs.lemmas.Bool.{cases_eq, ne_eqb}
use Rattle.slab.specs.Slab.{Slab, get, ContainsKey, Updates}
use Rattle.nibble_trie.specs.declared.link.Link.{Link}
use Rattle.nibble_trie.specs.declared.link.Target.{Target}
use Rattle.nibble_trie.specs.declared.link.Target.TheVariants.{Nothing, Leaf, Inner}
use Rattle.nibble_trie.specs.declared.branch.Branch.{Branch}
use Rattle.nibble_trie.specs.declared.index.Index.{Index}
use Rattle.nibble_trie.specs.declared.index.Spot.{Spot}
use Rattle.nibble_trie.specs.Links.{leads, IsCell, target_at}
use Rattle.nibble_trie.specs.Index.{Layout, level_of, block_of, high, IsPlace, is_live, link_at, target_in, Lies, Fits, IsLaid, OnWay, Placed, Writes}
use Rattle.nibble_trie.proofs.Digits.{same_number, some_same}
use Rattle.nibble_trie.proofs.Splits.{Splits, with_branch, split_holds, split_lies}
use Rattle.nibble_trie.proofs.Drops.{Drops}
use Rattle.nibble_trie.proofs.Ways.{target_some, below}

pub live_found : (index : Index) (c : ℕ) (b : Branch) → get index.branches c ≡ Some b → is_live index c
live_found index c b found = subst IsSome (sym found) refl

not_live : (index : Index) (c : ℕ) → get index.branches c ≡ None → is_live index c → ⊥
not_live index c none live = let clash = sym (ap is_some none) ∙ live in absurd (cc)

-- a link of a branch
pub written : (old new : Index) (branch digit : ℕ) (b b' : Branch) (link : Link) → get old.branches branch ≡ Some b → ((i : ℕ) → target_at b' i ≡ cond (nat_eq i digit) (leads link) (target_at b i)) → new.root ≡ old.root → Updates old.branches new.branches branch (Some b') → Writes (is_live old) (is_live new) (link_at old) (link_at new) (Some (branch, digit)) (leads link)
written old new branch digit b b' link found set root u = record {
  changed = target_some (get new.branches branch) b' digit u.changed ∙ set digit ∙ ap (λ t. cond t (leads link) (target_at b digit)) (same_number digit);
  others = others;
  kept = λ c live. elim (cases_eq c branch) [
    | inl e ↦ subst (is_live new) (sym e) (live_found new branch b' u.changed)
    | inr n ↦ subst IsSome (sym (u.others c n)) live
  ];
  from = λ c live. elim (cases_eq c branch) [
    | inl e ↦ subst (is_live old) (sym e) (live_found old branch b found)
    | inr n ↦ subst IsSome (u.others c n) live
  ];
}
  where
    others : (x : Option (ℕ × ℕ)) → x ≢ Some (branch, digit) → link_at new x ≡ link_at old x
    others None n = ap leads root
    others (Some x) n = elim (cases_eq x.0 branch) [
      | inl e ↦ elim (cases_eq x.1 digit) [
        | inl d ↦ absurd (n (λ i. Some (e i, d i)))
        | inr d ↦
            target_some (get new.branches x.0) b' x.1 (ap (get new.branches) e ∙ u.changed) ∙ set x.1 ∙ ap (λ t. cond t (leads link) (target_at b x.1)) (ne_eqb x.1 digit d)
            ∙ sym (target_some (get old.branches x.0) b x.1 (ap (get old.branches) e ∙ found))
      ]
      | inr m ↦ ap (λ o. target_in o x.1) (u.others x.0 m)
    ]

-- ---- a branch more
module _ (old mid new : Index) (at : Option (ℕ × ℕ)) (c other digit : ℕ) (b : Branch) (place : IsPlace (is_live old) at) (vacant : get old.branches c ≡ None) (root : mid.root ≡ old.root) (u : Updates old.branches mid.branches c (Some b)) (w : Writes (is_live mid) (is_live new) (link_at mid) (link_at new) at (Inner c)) (was : link_at old at ≡ Leaf other) (one : (i : ℕ) → i < 16 → target_at b i ≡ cond (nat_eq i digit) (Leaf other) Nothing) where
  apart : (x : ℕ) → is_live old x → x ≢ c
  apart x live e = not_live old c vacant (subst (is_live old) e live)

  other_place : (x : Option (ℕ × ℕ)) (i : ℕ) → IsPlace (is_live old) x → Some (c, i) ≢ x
  other_place None i p e = absurd (cc)
  other_place (Some x) i p e = apart x.0 p.0 (sym (ap (λ q. q.0) (some_same _ _ e)))

  same_mid : (x : Option (ℕ × ℕ)) → IsPlace (is_live old) x → link_at mid x ≡ link_at old x
  same_mid None p = ap leads root
  same_mid (Some x) p = ap (λ o. target_in o x.1) (u.others x.0 (apart x.0 p.0))

  pub live_mid : (x : ℕ) → is_live old x → is_live mid x
  live_mid x live = subst IsSome (sym (u.others x (apart x live))) live

  pub splits_of : Splits (is_live old) (is_live new) (link_at old) (link_at new) at c other digit
  splits_of = record {
    was = was;
    vacant = not_live old c vacant;
    kept = λ x live. w.kept x (live_mid x live);
    here = w.kept c (live_found mid c b u.changed);
    from = λ x live. elim (cases_eq x c) [
      | inl e ↦ inr e
      | inr n ↦ inl (subst IsSome (u.others x n) (w.from x live))
    ];
    top = w.changed;
    inner = λ i small. w.others (Some (c, i)) (other_place at i place) ∙ target_some (get mid.branches c) b i u.changed ∙ one i small;
    others = λ x p n. w.others x n ∙ same_mid x p;
  }

pub inner_cell : (live live' : ℕ → Type 0) (links links' : Option (ℕ × ℕ) → Target) (at : Option (ℕ × ℕ)) (c other digit : ℕ) → Splits live live' links links' at c other digit → (i : ℕ) → i < 16 → IsCell (links' (Some (c, i)))
inner_cell live live' links links' at c other digit s i small = subst IsCell (sym (s.inner i small)) (elim (nat_eq i digit) as (λ b. IsCell (cond b (Leaf other) Nothing)) [ true ↦ tt | false ↦ tt ])

-- the place of an address under the branch
pub split_placed : (old new : Index) (heads : ℕ → Option ℕ) (layout : Layout) (spot : Spot) (a c standing other : ℕ) → IsLaid old heads layout → OnWay old layout a spot → 0 < spot.level → heads standing ≡ Some other → Lies layout spot.at standing → (level : ℕ) → level + 1 ≡ spot.level → Splits (is_live old) (is_live new) (link_at old) (link_at new) spot.at c other (high level standing % 16) → Placed new heads a (below new c a level)
split_placed old new heads layout spot a c standing other h way deep has lies level is s =
    let d : level_of layout spot.at ≡ level + 1 = way.stands.level ∙ sym is in
    record {
      layout = with_branch layout c level (block_of layout spot.at);
      holds = split_holds (is_live old) (is_live new) (link_at old) (link_at new) heads layout spot.at c level standing other h way.stands.place d has lies s;
      way = record {
        stands = record { place = (s.here, mod_below (high level a) 16 (omega arith)); level = ap (λ t. cond t level (layout.level c)) (same_number c); leads = refl; short = omega (arith, way.stands.short) };
        lies = split_lies (is_live old) (is_live new) (link_at old) (link_at new) heads layout spot.at c level standing other h way.stands.place d has lies s a way.lies;
      };
    }

-- ---- a branch less
pub drops_of : (old mid new : Index) (at : Option (ℕ × ℕ)) (c : ℕ) (b : Branch) → get old.branches c ≡ Some b → mid.root ≡ old.root → Updates old.branches mid.branches c None → Writes (is_live mid) (is_live new) (link_at mid) (link_at new) at Nothing → link_at old at ≡ Inner c → ((i : ℕ) → i < 16 → target_at b i ≡ Nothing) → Drops (is_live old) (is_live new) (link_at old) (link_at new) at c
drops_of old mid new at c b found root u w was empty = record {
  was = was;
  empty = λ i small. target_some (get old.branches c) b i found ∙ empty i small;
  from = λ x live. elim (cases_eq x c) [
    | inl e ↦ absurd (gone (subst (is_live new) e live))
    | inr n ↦ subst IsSome (u.others x n) (w.from x live)
  ];
  gone = gone;
  kept = λ x live n. w.kept x (subst IsSome (sym (u.others x n)) live);
  top = w.changed;
  others = λ x p n. w.others x n ∙ same x p;
}
  where
    gone : is_live new c → ⊥
    gone live = not_live mid c u.changed (w.from c live)

    same : (x : Option (ℕ × ℕ)) → IsPlace (is_live new) x → link_at mid x ≡ link_at old x
    same None p = ap leads root
    same (Some x) p = ap (λ o. target_in o x.1) (u.others x.0 (λ e. gone (subst (is_live new) e p.0)))

-- the place above a branch is none of the branch's
pub place_above : (live live' : ℕ → Type 0) (heads : ℕ → Option ℕ) (layout : Layout) (at : Option (ℕ × ℕ)) (c : ℕ) → Fits live heads layout at (Inner c) → ((b : ℕ) → live b → b ≢ c → live' b) → IsPlace live at → IsPlace live' at
place_above live live' heads layout None c f kept place = tt
place_above live live' heads layout (Some x) c f kept place = (kept x.0 place.0 (λ same. absurd (let l : layout.level x.0 ≡ layout.level c = ap layout.level same in omega (arith, f.1))), place.1)

pub kept_less : (old new : Slab Branch) (c : ℕ) → Updates old new c None → (b : ℕ) → ContainsKey old b → b ≢ c → ContainsKey new b
kept_less old new c u b live n = subst IsSome (sym (u.others b n)) live

-- a branch with one link, by what the code knows of it
pub one_link : (b : Branch) (digit d : ℕ) (t : Target) (link : Link) → ((i : ℕ) → i < 16 → target_at b i ≡ cond (nat_eq i digit) (leads link) Nothing) → digit ≡ d → leads link ≡ t → (i : ℕ) → i < 16 → target_at b i ≡ cond (nat_eq i d) t Nothing
one_link b digit d t link one same is i small = one i small ∙ ap (λ x. cond (nat_eq i x) (leads link) Nothing) same ∙ ap (λ x. cond (nat_eq i d) x Nothing) is
