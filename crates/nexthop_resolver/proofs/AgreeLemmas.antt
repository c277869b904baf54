-- A resolver and the register: at first, whatever other clients do, and after a change of the interior routes.
use Rattle.std.proofs.Common.{◌≡◌, ◌≢◌, ℕ, ◌==◌, ◌&&◌, Bool, true, false, cond, Decides, List, refl, sym, ap, ◌∙◌, Option, Some, None, is_some}
use Rattle.std.proofs.lemmas.Bool.Decides.{Decides-eqb, Decides-and, Decides-like, Decides-by_or, not_from_Decides}
use Rattle.std.proofs.lemmas.List.Elements.{Decides-contains}
use Rattle.std.specs.List.{Contains}
use Rattle.std.specs.Option.{option_map}
use Rattle.std.specs.Ordering.{nat_cmp}
use Rattle.std.specs.FinMap.{get, empty, get-empty}
use Rattle.addr4.specs.Prefixes.{AddressPrefix}
use Rattle.rib_route.specs.Rows.{Interior}
use Rattle.register_interest.specs.Interests.{Interest}
use Rattle.register_interest.specs.Interests.{without}
use Rattle.register_interest.specs.Registers.{Registry, KeepsAnswers}
use Rattle.register_interest.proofs.InterestLemmas.{without_others, without_listed}
use Rattle.nexthop_known.specs.Hops.{Hop}
use Rattle.nexthop_known.specs.Hops.{Hops, is_with, IsMapped}
use Rattle.nexthop_known.specs.Agreement.{IsPresent}
use Rattle.nexthop_known.proofs.HopLemmas.{with_told, with_itself}
use Rattle.nexthop_resolver.specs.Registered.{interest_of, answer_of, Agrees, KeepsOthers}
use Rattle.nexthop_resolver.specs.Reached.{is_listed, reached_hop}
use Rattle.nexthop_resolver.proofs.AskLemmas.{some_of, same_answers}
use Rattle.nexthop_resolver.proofs.MoveLemmas.{by_bool, same_some, clash_some}

-- ---- whether an interest is one of a list
-- the client's interest in a subnet
abbrev own : ℕ → AddressPrefix → Interest
own k s = record { subnet = s; client = k }

one_told : (k : ℕ) (s : AddressPrefix) (i : Interest) → Decides (i.client == k && is_with i.subnet (Some s)) (i ≡ own k s)
one_told k s i =
    Decides-like _ (λ both. λ j. record { subnet = both.1 j; client = both.0 j }) (λ is. (ap (λ (x : Interest). x.client) is, ap (λ (x : Interest). x.subnet) is))
    (Decides-and _ (is_with i.subnet (Some s)) (Decides-eqb i.client k)
    (λ e. sym (same_some s i.subnet (with_told i.subnet (Some s) e)), λ is. ap (λ (t : AddressPrefix). is_with t (Some s)) is ∙ with_itself s))

listed_told : (out : List Interest) (k : ℕ) (s : AddressPrefix) → Decides (is_listed out k (Some s)) (Contains out (own k s))
listed_told out k s =
    Decides-contains out (own k s) _
    (Decides-by_or (λ (i : Interest). i.client == k && is_with i.subnet (Some s)) (λ (i : Interest). i ≡ own k s) (λ (l : List Interest). is_listed l k (Some s)) (one_told k s) refl (λ i l. refl) out)

module _ {A : Type 0} (kept : Option (AddressPrefix × Interior) → A) where
  pub nothing_yet : (client : ℕ) (r : Registry Interior) → ((s : AddressPrefix) → interest_of client r s ≡ false) → Agrees kept client empty r
  nothing_yet client r none = record {
    present = λ a h s e came. clash_some h _ (sym (get-empty nat_cmp a) ∙ e);
    wanted = λ s is. absurd (let clash : false ≡ true = sym (none s) ∙ is in cc);
  }

  pub others_agree : (client other : ℕ) (known : Hops A) (was is : Registry Interior) → client ≢ other → KeepsOthers other was is → Agrees kept client known was
      → Agrees kept client known is
  others_agree client other known was is apart keeps agree = record {
    present = λ a h s e came.
        let p = agree.present a h s e came in
        record {
          answered = p.answered ∙ ap (λ (f : ℕ → A). f a) (sym (same_answers kept was is keeps.rows));
          kept = ap is_some (keeps.interests (record { subnet = s; client = client }) apart) ∙ p.kept;
          holds = p.holds;
        };
    wanted = λ s in_it. agree.wanted s (sym (ap is_some (keeps.interests (record { subnet = s; client = client }) apart)) ∙ in_it);
  }

  -- ---- after a change of the interior routes
  module _ (k : ℕ) (out : List Interest) (was is : Registry Interior) (old new : Hops A) (ints : is.interests ≡ without was.interests out) (keeps : KeepsAnswers was is) (reached : IsMapped (reached_hop out k) old new) where
    -- an interest that isn't given up is kept
    kept_as_was : (s : AddressPrefix) → is_listed out k (Some s) ≡ false → get is.interests (own k s) ≡ get was.interests (own k s)
    kept_as_was s free = ap (λ m. get m (own k s)) ints ∙ without_others was.interests out (own k s) (not_from_Decides _ (listed_told out k s) free)

    -- and one that is kept wasn't given up
    free_of : (s : AddressPrefix) → interest_of k is s ≡ true → is_listed out k (Some s) ≡ false
    free_of s in_it = by_bool (is_listed out k (Some s)) (λ b. b ≡ false) (λ listed.
        let gone : get is.interests (own k s) ≡ None = ap (λ m. get m (own k s)) ints ∙ without_listed was.interests out (own k s) ((listed_told out k s).0 listed) in
        absurd (let clash : false ≡ true = sym (ap is_some gone) ∙ in_it in cc)) (λ _. refl)

    -- an answer that isn't stale was none before
    fresh_still : (g h : Hop A) (s : AddressPrefix) → reached_hop out k g ≡ h → h.came ≡ Some s → (g.came ≡ Some s) × (is_listed out k (Some s) ≡ false) × (g.fresh ≡ h.fresh)
    fresh_still g h s same came =
        let c = by_test (is_listed out k g.came) (ap (λ (x : Hop A). x.came) same ∙ came) in
        (c.1, ap (is_listed out k) (sym c.1) ∙ c.0, ap (λ (x : Hop A). x.fresh) same)
      where
        by_test : (b : Bool) → cond b None g.came ≡ Some s → (b ≡ false) × (g.came ≡ Some s)
        by_test true e = clash_some s _ e
        by_test false e = (refl, e)

    present_still : Agrees kept k old was → (a : ℕ) (h : Hop A) (s : AddressPrefix) (o : Option (Hop A)) → get old a ≡ o → option_map (reached_hop out k) o ≡ Some h → h.came ≡ Some s
        → IsPresent (answer_of kept is) (interest_of k is) a h s
    present_still agree a h s None at e came = clash_some h _ e
    present_still agree a h s (Some g) at e came =
        let f = fresh_still g h s (same_some (reached_hop out k g) h e) came in
        let p = agree.present a g s at f.0 in
        let same = kept_as_was s f.1 in
        let found = some_of (get was.interests (own k s)) p.kept in
        let still = keeps (own k s) found.0 (same ∙ found.1) in
        record { answered = sym f.2 ∙ p.answered ∙ ap kept (sym (still.1 a p.holds)); kept = ap is_some same ∙ p.kept; holds = p.holds }

    pub reached_agrees : Agrees kept k old was → Agrees kept k new is
    reached_agrees agree = record {
      present = λ a h s at came. present_still agree a h s (get old a) refl (sym (reached a) ∙ at) came;
      wanted = λ s in_it.
          let m = some_of (get is.interests (own k s)) in_it in
          let w = agree.wanted s (ap is_some (keeps (own k s) m.0 m.1).0) in
          let free : is_listed out k w.1.came ≡ false = ap (is_listed out k) w.3 ∙ free_of s in_it in
          (w.0, reached_hop out k w.1, reached w.0 ∙ ap (option_map (reached_hop out k)) w.2, ap (λ (b : Bool). cond b None w.1.came) free ∙ w.3);
    }
