-- What stands where a slot was put.
use Rattle.std.proofs.Common.{◌≡◌, ℕ, Bool, true, false, cond, Option, Some, IsSome, refl, sym, ap, subst, ◌∙◌}
use Rattle.std.specs.Ordering.{eq_by_cmp}
use Rattle.std.specs.FinMap.{FinMap, get, insert, get-insert, same_map}
use Rattle.addr4.specs.Prefixes.{AddressPrefix, prefix_cmp}
use Rattle.addr4.proofs.PrefixOrder.{prefixes_total, exact_prefixes, one_prefix}
use Rattle.safe_table.specs.Slots.{Slot}
use Rattle.safe_table.specs.Fields.{readers_of}
use Rattle.safe_table.proofs.Maps.{get-insert_same, set_twice}

module _ {V : Type 0} where
  -- to put the slot that is there changes nothing
  insert_present : (m : FinMap prefix_cmp (Slot V)) (p : AddressPrefix) (s : Slot V) → get m p ≡ Some s → insert m p s ≡ m
  insert_present m p s found = same_map prefixes_total exact_prefixes _ _ (λ q. get-insert prefixes_total m p s q ∙ by_case q (eq_by_cmp prefix_cmp q p) refl)
    where
      by_case : (q : AddressPrefix) (b : Bool) → eq_by_cmp prefix_cmp q p ≡ b → cond b (Some s) (get m q) ≡ get m q
      by_case q true e = sym (ap (get m) (one_prefix q p e) ∙ found)
      by_case q false e = refl

  -- nor does it to set the number of its iterators to what it is
  pub readers_present : (m : FinMap prefix_cmp (Slot V)) (p : AddressPrefix) (s : Slot V) (k : ℕ) → get m p ≡ Some s → s.readers ≡ k → m ≡ insert m p (record s { readers = k })
  readers_present m p s k found e = subst (λ n. m ≡ insert m p (record s { readers = n })) e (sym (insert_present m p s found))

  -- a new slot was put in the place of one, and then the number of that one's iterators
  pub put_over : (m m1 m2 : FinMap prefix_cmp (Slot V)) (p : AddressPrefix) (v : V) (s t : Slot V) → s ≡ record { value = Some v; readers = 0 } → m1 ≡ insert m p s → Some t ≡ get m p
      → ((x : Slot V) → get m1 p ≡ Some x → x.readers ≡ 0 → m2 ≡ insert m1 p (record x { readers = t.readers }))
      → m2 ≡ insert m p (record { value = Some v; readers = readers_of (get m p) })
  put_over m m1 m2 p v s t new put was stays =
      let at : get m1 p ≡ Some s = ap (λ k. get k p) put ∙ get-insert_same m p s in
      set_twice m m1 m2 p s _ put (stays s at (ap (λ x. x.readers) new))
      ∙ ap (λ (x : Slot V). insert m p (record x { readers = t.readers })) new
      ∙ ap (λ (o : Option (Slot V)). insert m p (record { value = Some v; readers = readers_of o })) was

  -- the slot that was put stands there
  pub stands_put : (m m1 : FinMap prefix_cmp (Slot V)) (p : AddressPrefix) (s : Slot V) → m1 ≡ insert m p s → IsSome (get m1 p)
  stands_put m m1 p s put = subst IsSome (sym (ap (λ k. get k p) put ∙ get-insert_same m p s)) refl
