-- Known next hops and the register that is asked about them.
use Rattle.std.proofs.Common.{◌≡◌, ◌≢◌, ℕ, true, false, not, refl, sym, ap, ◌∙◌, subst, Option, Some, None, IsSome, is_some}
use Rattle.std.specs.FinMap.{get, insert, remove, nat_cmp-IsAntisymmetric}
use Rattle.std.specs.FinMap as map
use Rattle.std.specs.Cmp.{nat_cmp_total}
use Rattle.addr4.specs.Prefixes.{AddressPrefix, Holds}
use Rattle.register_interest.specs.Width.{width}
use Rattle.link_change.proofs.MapLemmas.{get_at, get_apart, removed_at, removed_apart}
use Rattle.rib_route.specs.Rows.{Interior}
use Rattle.register_interest.specs.Covers.{longest, matched, IsSubnet, IsCover}
use Rattle.register_interest.specs.Interests.{Interest}
use Rattle.register_interest.specs.Registers.{Registry}
use Rattle.register_interest.proofs.InterestLemmas.{interests_total, exact_interests}
use Rattle.nexthop_known.specs.Hops.{Hop}
use Rattle.nexthop_known.specs.Hops.{Hops, came_at, is_stale_at, learnt, renewed, IsRenewed, IsGivenUp, IsWithSome, IsWithNone}
use Rattle.nexthop_known.specs.Agreement.{Agree, IsInterestIn, GivesUp}
use Rattle.nexthop_known.proofs.AgreeLemmas.{answered_agrees, early_agrees, early_is_given_up, forgotten_agrees}
use Rattle.nexthop_resolver.specs.Registered.{answer_of, interest_of, told_of, Agrees, IsEarly, IsLargest, IsToldBy, KeepsOthers}

pub some_of : {X : Type 0} (o : Option X) → IsSome o → (x : X) × (o ≡ Some x)
some_of None s = absurd (let clash : false ≡ true = s in cc)
some_of (Some x) s = (x, refl)

pub none_of : {X : Type 0} (o : Option X) → is_some o ≡ false → o ≡ None
none_of None e = refl
none_of (Some x) e = absurd (let clash : true ≡ false = e in cc)

-- ---- the register
module _ {R : Type 0} where
  pub keeps_all : (client : ℕ) (r : Registry R) → KeepsOthers client r r
  keeps_all client r = record { rows = refl; interests = λ k ne. refl }

  module _ (client : ℕ) (was is : Registry R) (s : AddressPrefix) where
    abbrev own : AddressPrefix → Interest
    own t = record { subnet = t; client = client }

    apart_own : (t : AddressPrefix) → t ≢ s → own t ≢ own s
    apart_own t ne e = ne (ap (λ (k : Interest). k.subnet) e)

    -- an interest comes
    pub comes_in : (m : Option AddressPrefix) → is.interests ≡ insert was.interests (own s) m → IsInterestIn (interest_of client was) (interest_of client is) s true
    comes_in m ints = record {
      here = ap (λ x. map.contains_key x (own s)) ints ∙ ap is_some (get_at interests_total was.interests (own s) m);
      others = λ t ne. ap (λ x. map.contains_key x (own t)) ints ∙ ap is_some (get_apart interests_total exact_interests was.interests (own s) m (own t) (apart_own t ne));
    }

    pub comes_alone : (m : Option AddressPrefix) → is.rows ≡ was.rows → is.interests ≡ insert was.interests (own s) m → KeepsOthers client was is
    comes_alone m rows ints = record {
      rows = rows;
      interests = λ k ne. ap (λ x. get x k) ints ∙ get_apart interests_total exact_interests was.interests (own s) m k (λ e. ne (ap (λ (x : Interest). x.client) e));
    }

    -- one goes
    pub goes_out : is.interests ≡ remove was.interests (own s) → IsInterestIn (interest_of client was) (interest_of client is) s false
    goes_out ints = record {
      here = ap (λ x. map.contains_key x (own s)) ints ∙ ap is_some (removed_at interests_total was.interests (own s));
      others = λ t ne. ap (λ x. map.contains_key x (own t)) ints ∙ ap is_some (removed_apart interests_total exact_interests was.interests (own s) (own t) (apart_own t ne));
    }

    pub goes_alone : is.rows ≡ was.rows → is.interests ≡ remove was.interests (own s) → KeepsOthers client was is
    goes_alone rows ints = record {
      rows = rows;
      interests = λ k ne. ap (λ x. get x k) ints ∙ removed_apart interests_total exact_interests was.interests (own s) k (λ e. ne (ap (λ (x : Interest). x.client) e));
    }

-- the subnet of a cover is the largest one for its longest match
pub largest_of : (r : Registry Interior) (a : ℕ) (m : Option (AddressPrefix × Interior)) (s : AddressPrefix) → IsCover width (get r.rows) a m s → IsLargest (get r.rows) a s
largest_of r a m s c = subst (λ (o : Option (AddressPrefix × Interior)). IsSubnet width (get r.rows) a (matched o) s) c.longest_is c.subnet

module _ {A : Type 0} (kept : Option (AddressPrefix × Interior) → A) where
  pub same_answers : (was is : Registry Interior) → is.rows ≡ was.rows → answer_of kept is ≡ answer_of kept was
  same_answers was is rows = λ i a. kept (longest width (get (rows i)) a)

  pub same_told : (was is : Registry Interior) → is.rows ≡ was.rows → told_of kept is ≡ told_of kept was
  same_told was is rows = λ i. IsToldBy kept (get (rows i))

  by_rows : (client : ℕ) (known : Hops A) (was is : Registry Interior) → is.rows ≡ was.rows → Agree (answer_of kept was) (interest_of client is) (get known) → Agrees kept client known is
  by_rows client known was is rows agree = subst (λ (f : ℕ → A). Agree f (interest_of client is) (get known)) (sym (same_answers was is rows)) agree

  -- an unknown or stale next hop gets the present answer
  put_agrees : (client : ℕ) (known new : Hops A) (was is : Registry Interior) (a : ℕ) (h : Hop A) (s : AddressPrefix) → Agrees kept client known was → is.rows ≡ was.rows
      → IsInterestIn (interest_of client was) (interest_of client is) s true → came_at (get known a) ≡ None → new ≡ insert known a h
      → h.fresh ≡ answer_of kept was a → h.came ≡ Some s → Holds width s a → Agrees kept client new is
  put_agrees client known new was is a h s agree rows interest free new_is fresh came holds =
      by_rows client new was is rows
      (answered_agrees (answer_of kept was) (interest_of client was) (interest_of client is) (get known) (get new) a h s agree free
      (record { here = ap (λ m. get m a) new_is ∙ get_at nat_cmp_total known a h; others = λ b ne. ap (λ m. get m b) new_is ∙ get_apart nat_cmp_total nat_cmp-IsAntisymmetric known a h b ne })
      fresh came holds interest)

  pub learnt_agrees : (client : ℕ) (known new : Hops A) (was is : Registry Interior) (a : ℕ) (s : AddressPrefix) (x : A) → Agrees kept client known was → is.rows ≡ was.rows
      → IsInterestIn (interest_of client was) (interest_of client is) s true → is_some (get known a) ≡ false → new ≡ insert known a (learnt s x)
      → x ≡ answer_of kept was a → Holds width s a → Agrees kept client new is
  learnt_agrees client known new was is a s x agree rows interest unknown new_is answer holds =
      put_agrees client known new was is a (learnt s x) s agree rows interest (ap came_at (none_of (get known a) unknown)) new_is answer refl holds

  stale_came : (o : Option (Hop A)) → is_stale_at o ≡ true → came_at o ≡ None
  stale_came None e = refl
  stale_came (Some h) e = by_came h.came refl
    where
      by_came : (c : Option AddressPrefix) → h.came ≡ c → h.came ≡ None
      by_came None is = is
      by_came (Some s) is = absurd (let clash : false ≡ true = sym (ap (λ c. not (is_some c)) is) ∙ e in cc)

  pub renewed_agrees : (client : ℕ) (known new : Hops A) (was is : Registry Interior) (a : ℕ) (s : AddressPrefix) (x : A) → Agrees kept client known was → is.rows ≡ was.rows
      → IsInterestIn (interest_of client was) (interest_of client is) s true → is_stale_at (get known a) ≡ true → IsRenewed known new a s x
      → x ≡ answer_of kept was a → Holds width s a → Agrees kept client new is
  renewed_agrees client known new was is a s x agree rows interest stale new_is answer holds =
      put_agrees client known new was is a (renewed s x (get known a)) s agree rows interest (stale_came (get known a) stale) new_is answer refl holds

  -- an interest came too early
  pub is_early : (client : ℕ) (known : Hops A) (was is : Registry Interior) (s : AddressPrefix) → Agrees kept client known was → is.rows ≡ was.rows
      → IsInterestIn (interest_of client was) (interest_of client is) s true → IsEarly kept client known is s
  is_early client known was is s agree rows interest = record {
    before = interest_of client was;
    agree = subst (λ (f : ℕ → A). Agree f (interest_of client was) (get known)) (sym (same_answers was is rows)) agree;
    comes = interest;
  }

  pub needed : (client : ℕ) (known : Hops A) (r : Registry Interior) (s : AddressPrefix) → IsEarly kept client known r s → IsWithSome (get known) s → Agrees kept client known r
  needed client known r s early some = early_agrees (answer_of kept r) early.before (interest_of client r) (get known) s early.agree early.comes some

  pub not_needed : (client : ℕ) (known : Hops A) (was is : Registry Interior) (s : AddressPrefix) → IsEarly kept client known was s → IsWithNone (get known) s → is.rows ≡ was.rows
      → IsInterestIn (interest_of client was) (interest_of client is) s false → Agrees kept client known is
  not_needed client known was is s early none rows out =
      by_rows client known was is rows
      (early_is_given_up (answer_of kept was) early.before (interest_of client was) (interest_of client is) (get known) s early.agree early.comes none out)

  -- a next hop is forgotten
  pub forgot_agrees : (client : ℕ) (known new : Hops A) (was is : Registry Interior) (a : ℕ) (up : Option AddressPrefix) → Agrees kept client known was → is.rows ≡ was.rows
      → IsSome (get known a) → new ≡ remove known a → IsGivenUp (get known) (get new) a up → GivesUp (interest_of client was) (interest_of client is) up
      → Agrees kept client new is
  forgot_agrees client known new was is a up agree rows some new_is given gives =
      let h = some_of (get known a) some in
      by_rows client new was is rows
      (forgotten_agrees (answer_of kept was) (interest_of client was) (interest_of client is) (get known) (get new) a h.0 up agree h.1
      (record { here = ap (λ m. get m a) new_is ∙ removed_at nat_cmp_total known a; others = λ b ne. ap (λ m. get m b) new_is ∙ removed_apart nat_cmp_total nat_cmp-IsAntisymmetric known a b ne })
      (given h.0 h.1) gives)
