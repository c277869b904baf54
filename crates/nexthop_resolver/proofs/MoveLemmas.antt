-- One row more or less names a next hop.
use Rattle.std.proofs.Common.{◌≡◌, ◌≢◌, ℕ, zero, suc, Bool, true, false, not, refl, sym, ap, ◌∙◌, subst, inl, inr, Option, Some, None, is_some, arith, ◌==◌, eqb-true}
use Rattle.std.specs.FinMap.{get, insert, remove, empty, get-empty, nat_cmp-IsAntisymmetric}
use Rattle.std.specs.FinMap as map
use Rattle.std.specs.Option.{option_map, option_eq}
use Rattle.std.specs.Ordering.{nat_cmp}
use Rattle.std.proofs.lemmas.Bool.{cases_eq}
use Rattle.std.specs.Cmp.{nat_cmp_total}
use Rattle.addr4.specs.Prefixes.{AddressPrefix}
use Rattle.link_change.proofs.MapLemmas.{get_at, get_apart, removed_at, removed_apart}
use Rattle.nexthop_known.specs.Hops.{Hop}
use Rattle.nexthop_known.specs.Hops.{Hops, renewed, IsMapped, IsRenewed}
use Rattle.nexthop_known.specs.Counts.{Counts, counted, one_more, one_less, one_less_of, is_one, once, Recounts}
use Rattle.nexthop_known.proofs.StaleLemmas.{same_len}
use Rattle.nexthop_known.proofs.CountLemmas.{one_more_counts, one_less_counts, one_for_another, more_and_less}
use Rattle.nexthop_resolver.specs.Resolving.{Resolving, AreNamed}
use Rattle.nexthop_resolver.specs.Takes.{KeepsOnly, KeepsOrLearns, Moves, Keeps}
use Rattle.nexthop_resolver.proofs.AskLemmas.{none_of}

-- by a test, with what it came to
pub by_bool : (b : Bool) (P : Bool → Type 0) → (b ≡ true → P true) → (b ≡ false → P false) → P b
by_bool true P yes_so no_so = yes_so refl
by_bool false P yes_so no_so = no_so refl

pub same_some : {X : Type 0} (x y : X) → Some x ≡ Some y → x ≡ y
same_some x y e = cc

pub clash_some : {X : Type 0} (x : X) (P : Type 0) → None ≡ Some x → P
clash_some x P e = absurd (cc)

-- whether it is the first row, as the code is told
pub again_so : (x has : Bool) → x ≡ not has → x ≡ false → has ≡ true
again_so x true is e = refl
again_so x false is e = absurd (let clash : true ≡ false = sym is ∙ e in cc)

pub first_so : (x has : Bool) → x ≡ not has → x ≡ true → has ≡ false
first_so x true is e = absurd (let clash : false ≡ true = sym is ∙ e in cc)
first_so x false is e = refl

-- one row more and then one less
pub back_counts : (counts more back : Counts) (a : ℕ) → more ≡ one_more counts a → back ≡ one_less more a → back ≡ counts
back_counts counts more back a m b = b ∙ ap (λ (x : Counts). one_less x a) m ∙ more_and_less counts a

pub same_hops : (o n : Option ℕ) → option_eq ◌==◌ o n ≡ true → o ≡ n
same_hops None None e = refl
same_hops None (Some b) e = absurd (let clash : false ≡ true = e in cc)
same_hops (Some a) None e = absurd (let clash : false ≡ true = e in cc)
same_hops (Some a) (Some b) e = ap Some (eqb-true a b e)

module _ {A : Type 0} where
  -- what is known is changed, and as many are known
  pub mapped_there : (f : Hop A → Hop A) (o : Option (Hop A)) → is_some (option_map f o) ≡ is_some o
  mapped_there f None = refl
  mapped_there f (Some h) = refl

  pub mapped_len : (f : Hop A → Hop A) (old new : Hops A) → IsMapped f old new → map.len new ≡ map.len old
  mapped_len f old new is = same_len new old (λ q. ap is_some (is q) ∙ mapped_there f (get old q))

  abbrev with_parts : ℕ → Counts → Hops A → Option (Option AddressPrefix) → Resolving A
  with_parts client counts known walk = record { client = client; counts = counts; known = known; walk = walk }

  keeps_known : (told : ℕ → Hop A → Type 0) (known : Hops A) → KeepsOrLearns told known known
  keeps_known told known a h e = inl e

  -- ---- which are named
  pub nothing_named : (counts : Counts) (known : Hops A) → counts ≡ empty → known ≡ empty → AreNamed counts known
  nothing_named counts known ec ek = λ a.
      ap is_some (ap (λ (m : Hops A). get m a) ek ∙ get-empty nat_cmp a) ∙ sym (ap is_some (ap (λ (m : Counts). get m a) ec ∙ get-empty nat_cmp a))

  more_named : (counts : Counts) (known : Hops A) (a : ℕ) (o : ℕ → Bool) → AreNamed counts known
      → o a ≡ true → ((b : ℕ) → b ≢ a → o b ≡ map.contains_key known b) → (b : ℕ) → o b ≡ map.contains_key (one_more counts a) b
  more_named counts known a o named here apart b = elim (cases_eq b a) [
    | inl e ↦ ap o e ∙ here ∙ sym (ap (λ x. map.contains_key (one_more counts a) x) e ∙ ap is_some (get_at nat_cmp_total counts a (counted counts a)))
    | inr ne ↦ apart b ne ∙ named b ∙ sym (ap is_some (get_apart nat_cmp_total nat_cmp-IsAntisymmetric counts a (counted counts a) b ne))
  ]

  module _ (told : ℕ → Hop A → Type 0) (client : ℕ) (counts : Counts) (known : Hops A) (walk : Option (Option AddressPrefix)) (named : AreNamed counts known) (a : ℕ) where
    -- ---- one more
    pub noted_again : (counts' : Counts) → map.contains_key counts a ≡ true → counts' ≡ one_more counts a
        → Moves told None (Some a) (with_parts client counts known walk) (with_parts client counts' known walk)
    noted_again counts' has is = record {
      client = refl;
      walk = refl;
      counts = subst (λ (m : Counts). Recounts None (Some a) counts m) (sym is) (one_more_counts counts a);
      hops = keeps_known told known;
    }

    pub noted_again_named : (counts' : Counts) → map.contains_key counts a ≡ true → counts' ≡ one_more counts a → AreNamed counts' known
    noted_again_named counts' has is =
        subst (λ (m : Counts). AreNamed m known) (sym is) (more_named counts known a (map.contains_key known) named (named a ∙ has) (λ b ne. refl))

    learns_hops : (known' : Hops A) (new : Hop A) → map.contains_key known a ≡ false → told a new → known' ≡ insert known a new → KeepsOrLearns told known known'
    learns_hops known' new unknown is_told is b h e = elim (cases_eq b a) [
      | inl at ↦
          let same : new ≡ h = same_some new h (sym (ap (λ (m : Hops A). get m b) is ∙ ap (get (insert known a new)) at ∙ get_at nat_cmp_total known a new) ∙ e) in
          inr (record {
            unknown = ap (get known) at ∙ none_of (get known a) unknown;
            is_told = subst (λ (k : ℕ). told k h) (sym at) (subst (told a) same is_told);
          })
      | inr ne ↦ inl (sym (ap (λ (m : Hops A). get m b) is ∙ get_apart nat_cmp_total nat_cmp-IsAntisymmetric known a new b ne) ∙ e)
    ]

    pub noted_first : (counts' : Counts) (known' : Hops A) (new : Hop A) → map.contains_key counts a ≡ false → counts' ≡ one_more counts a
        → told a new → known' ≡ insert known a new → Moves told None (Some a) (with_parts client counts known walk) (with_parts client counts' known' walk)
    noted_first counts' known' new none is is_told learns = record {
      client = refl;
      walk = refl;
      counts = subst (λ (m : Counts). Recounts None (Some a) counts m) (sym is) (one_more_counts counts a);
      hops = learns_hops known' new (named a ∙ none) is_told learns;
    }

    pub noted_first_named : (counts' : Counts) (known' : Hops A) (new : Hop A) → counts' ≡ one_more counts a → known' ≡ insert known a new → AreNamed counts' known'
    noted_first_named counts' known' new is learns =
        subst (λ (m : Counts). AreNamed m known') (sym is)
        (more_named counts known a (map.contains_key known') named
        (ap (λ (m : Hops A). map.contains_key m a) learns ∙ ap is_some (get_at nat_cmp_total known a new))
        (λ b ne. ap (λ (m : Hops A). map.contains_key m b) learns ∙ ap is_some (get_apart nat_cmp_total nat_cmp-IsAntisymmetric known a new b ne)))

    -- ---- one less
    less_named : (o : Option ℕ) → get counts a ≡ o → is_one o ≡ false → AreNamed (one_less_of counts a o) known
    less_named None e more = named
    less_named (Some zero) e more = absurd (let clash : true ≡ false = more in cc)
    less_named (Some (suc n)) e more = λ b. elim (cases_eq b a) [
      | inl at ↦ named b ∙ ap is_some (ap (get counts) at ∙ e) ∙ sym (ap is_some (ap (get (insert counts a n)) at ∙ get_at nat_cmp_total counts a n))
      | inr ne ↦ named b ∙ sym (ap is_some (get_apart nat_cmp_total nat_cmp-IsAntisymmetric counts a n b ne))
    ]

    pub released_more : (counts' : Counts) → is_one (get counts a) ≡ false → counts' ≡ one_less counts a
        → Moves told (Some a) None (with_parts client counts known walk) (with_parts client counts' known walk)
    released_more counts' more is = record {
      client = refl;
      walk = refl;
      counts = subst (λ (m : Counts). Recounts (Some a) None counts m) (sym is) (one_less_counts counts a);
      hops = keeps_known told known;
    }

    pub released_more_named : (counts' : Counts) → is_one (get counts a) ≡ false → counts' ≡ one_less counts a → AreNamed counts' known
    released_more_named counts' more is = subst (λ (m : Counts). AreNamed m known) (sym is) (less_named (get counts a) refl more)

    last_named : (o : Option ℕ) → get counts a ≡ o → is_one o ≡ true → AreNamed (one_less_of counts a o) (remove known a)
    last_named None e one = absurd (let clash : false ≡ true = one in cc)
    last_named (Some (suc n)) e one = absurd (let clash : false ≡ true = one in cc)
    last_named (Some zero) e one = λ b. elim (cases_eq b a) [
      | inl at ↦ ap is_some (ap (get (remove known a)) at ∙ removed_at nat_cmp_total known a) ∙ sym (ap is_some (ap (get (remove counts a)) at ∙ removed_at nat_cmp_total counts a))
      | inr ne ↦ ap is_some (removed_apart nat_cmp_total nat_cmp-IsAntisymmetric known a b ne) ∙ named b ∙ sym (ap is_some (removed_apart nat_cmp_total nat_cmp-IsAntisymmetric counts a b ne))
    ]

    pub released_last_named : (counts' : Counts) (known' : Hops A) → is_one (get counts a) ≡ true → counts' ≡ one_less counts a → known' ≡ remove known a → AreNamed counts' known'
    released_last_named counts' known' one is forgets =
        subst (λ (m : Counts). AreNamed m known') (sym is) (subst (λ (m : Hops A). AreNamed (one_less counts a) m) (sym forgets) (last_named (get counts a) refl one))

    pub forgets_only : (known' : Hops A) → known' ≡ remove known a → KeepsOnly known known'
    forgets_only known' is b h e = elim (cases_eq b a) [
      | inl at ↦ clash_some h _ (sym (ap (λ (m : Hops A). get m b) is ∙ ap (get (remove known a)) at ∙ removed_at nat_cmp_total known a) ∙ e)
      | inr ne ↦ sym (ap (λ (m : Hops A). get m b) is ∙ removed_apart nat_cmp_total nat_cmp-IsAntisymmetric known a b ne) ∙ e
    ]

    pub released_last : (counts' : Counts) (known' : Hops A) → is_one (get counts a) ≡ true → counts' ≡ one_less counts a → known' ≡ remove known a
        → Moves told (Some a) None (with_parts client counts known walk) (with_parts client counts' known' walk)
    released_last counts' known' one is forgets = record {
      client = refl;
      walk = refl;
      counts = subst (λ (m : Counts). Recounts (Some a) None counts m) (sym is) (one_less_counts counts a);
      hops = λ b h e. inl (forgets_only known' forgets b h e);
    }

  -- ---- where there was no memory to learn it
  pub back_named : (counts more back : Counts) (known known' : Hops A) (a : ℕ) → AreNamed counts known → more ≡ one_more counts a → back ≡ one_less more a → known' ≡ known
      → AreNamed back known'
  back_named counts more back known known' a named m b same =
      subst (λ (x : Counts). AreNamed x known') (sym (back_counts counts more back a m b)) (subst (λ (k : Hops A). AreNamed counts k) (sym same) named)

  pub back_same : (client : ℕ) (walk : Option (Option AddressPrefix)) (counts more back : Counts) (known known' : Hops A) (a : ℕ) → more ≡ one_more counts a → back ≡ one_less more a
      → known' ≡ known → with_parts client back known' walk ≡ with_parts client counts known walk
  back_same client walk counts more back known known' a m b same = λ i. with_parts client (back_counts counts more back a m b i) (same i) walk

  -- ---- one for another
  pub moves_none : (told : ℕ → Hop A → Type 0) (o : Option ℕ) (old : Resolving A) → Moves told o o old old
  moves_none told o old = record {
    client = refl;
    walk = refl;
    counts = λ a. let n = counted old.counts a in let m = once o a in omega arith;
    hops = keeps_known told old.known;
  }

  pub swapped : (told later : ℕ → Hop A → Type 0) (before after : Option ℕ) (old mid new : Resolving A) → Moves told None after old mid → Moves later before None mid new
      → KeepsOnly mid.known new.known → Moves told before after old new
  swapped told later before after old mid new more less only = record {
    client = less.client ∙ more.client;
    walk = less.walk ∙ more.walk;
    counts = one_for_another old.counts mid.counts new.counts before after more.counts less.counts;
    hops = λ a h e. more.hops a h (only a h e);
  }

  pub keeps_of : (told : ℕ → Hop A → Type 0) (before after : Option ℕ) (old new : Resolving A) → Moves told before after old new → Keeps told old new
  keeps_of told before after old new m = record { client = m.client; walk = m.walk; hops = m.hops }

  -- where one is asked for again, or answers become stale, the same next hops are known
  pub renewed_named : (counts : Counts) (known new : Hops A) (a : ℕ) (s : AddressPrefix) (x : A) → AreNamed counts known → is_some (get known a) ≡ true → IsRenewed known new a s x
      → AreNamed counts new
  renewed_named counts known new a s x named has is = λ b. elim (cases_eq b a) [
    | inl at ↦
        ap is_some (ap (λ (m : Hops A). get m b) is ∙ ap (get (insert known a (renewed s x (get known a)))) at ∙ get_at nat_cmp_total known a (renewed s x (get known a)))
        ∙ sym (sym (named b) ∙ ap (λ k. is_some (get known k)) at ∙ has)
    | inr ne ↦ ap is_some (ap (λ (m : Hops A). get m b) is ∙ get_apart nat_cmp_total nat_cmp-IsAntisymmetric known a (renewed s x (get known a)) b ne) ∙ named b
  ]
