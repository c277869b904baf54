-- What a register answers is one, and what a change of a row makes of it.
use Rattle.std.proofs.Common.{ℕ, List, Option, sym, ap, ◌∙◌, subst, arith}
use Rattle.std.specs.FinMap.{get}
use Rattle.std.specs.List.{Contains}
use Rattle.addr4.specs.Prefixes.{AddressPrefix}
use Rattle.register_interest.specs.Width.{width}
use Rattle.register_interest.specs.Covers.{longest, matched, IsSubnet}
use Rattle.register_interest.specs.Interests.{Interest}
use Rattle.register_interest.specs.Interests.{interest_cmp, AreReached, without}
use Rattle.register_interest.proofs.CoverLemmas.{one_of_length}
use Rattle.register_interest.proofs.InterestLemmas.{interests_total}
use Rattle.hop_determinism.specs.Laws.{ReachedIsOne, SubnetIsOne, CoverIsOne, LargestIsOne, RegisteredIsOne}
use Rattle.hop_determinism.proofs.ListLemmas.{sorted_is_one}

-- an interest that is listed is reached, and so it is listed everywhere
listed : (w : ℕ) (p : AddressPrefix) (interests : Interest → Option (Option AddressPrefix)) (a b : List Interest) → AreReached w p interests a → AreReached w p interests b → (k : Interest) → Contains a k → Contains b k
listed w p interests a b x y k c = let m = x.only k c in y.all k m.0 m.1 m.2

pub reached_is_one : ReachedIsOne
reached_is_one w p interests a b x y =
    sorted_is_one interest_cmp interests_total a b x.sorted y.sorted (listed w p interests a b x y) (listed w p interests b a y x)

module _ {V : Type 0} where
  pub subnet_is_one : SubnetIsOne V
  subnet_is_one w rows a m s t x y =
      let less = x.largest t y.masked y.holds y.free in
      let more = y.largest s x.masked x.holds x.free in
      one_of_length w a s t x.masked y.masked x.holds y.holds (omega (arith, less, more))

  pub cover_is_one : CoverIsOne V
  cover_is_one w rows a m n s t x y =
      let same = x.longest_is ∙ sym y.longest_is in
      (same, subnet_is_one w rows a (matched n) s t (subst (λ (o : Option (AddressPrefix × V)). IsSubnet w rows a (matched o) s) same x.subnet) y.subnet)

pub largest_is_one : LargestIsOne
largest_is_one rows a s t x y = subnet_is_one width rows a (matched (longest width rows a)) s t x y

pub registered_is_one : {R : Type 0} → RegisteredIsOne R
registered_is_one p row was is it a b rows x left rows' y left' =
    let same = reached_is_one width p (get was.interests) a b x y in
    let put = rows ∙ sym rows' in
    let kept = left ∙ ap (without was.interests) same ∙ sym left' in
    (same, λ i. record { rows = put i; interests = kept i })
