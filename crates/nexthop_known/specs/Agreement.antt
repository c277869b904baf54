-- What ties the known next hops to the register that was asked about them: over what is kept of its answer about each address, and the
-- subnets in which the one that asks is interested.
use Rattle.std.specs.Prelude.{◌≡◌, ◌≢◌, ℕ, Bool, true, false, Option, Some, None}
use Rattle.addr4.specs.Prefixes.{AddressPrefix, Holds}
use Rattle.register_interest.specs.Width.{width}
use Rattle.nexthop_known.specs.Hops.{Hop}
use Rattle.nexthop_known.specs.Hops.{IsWithSome}

module _ {A : Type 0} where
  -- the fresh answer of the next hop is the present one, the interest in the subnet with which it came is kept, and that subnet holds
  -- the next hop
  pub record IsPresent (answer : ℕ → A) (interested : AddressPrefix → Bool) (a : ℕ) (h : Hop A) (s : AddressPrefix) : Type 0 where
    pub answered : h.fresh ≡ answer a
    pub kept : interested s ≡ true
    pub holds : Holds width s a

  -- each next hop that isn't stale has the present answer
  abbrev pub ArePresent : (ℕ → A) → (AddressPrefix → Bool) → (ℕ → Option (Hop A)) → Type 0
  ArePresent answer interested hops = (a : ℕ) (h : Hop A) (s : AddressPrefix) → hops a ≡ Some h → h.came ≡ Some s → IsPresent answer interested a h s

  -- each interest is one with which the answer of such a next hop came
  abbrev pub AreWanted : (AddressPrefix → Bool) → (ℕ → Option (Hop A)) → Type 0
  AreWanted interested hops = (s : AddressPrefix) → interested s ≡ true → IsWithSome hops s

  pub record Agree (answer : ℕ → A) (interested : AddressPrefix → Bool) (hops : ℕ → Option (Hop A)) : Type 0 where
    pub present : ArePresent answer interested hops
    pub wanted : AreWanted interested hops

  -- the map has this at the address, and at the others what it had
  pub record IsPutAt (old new : ℕ → Option (Hop A)) (a : ℕ) (o : Option (Hop A)) : Type 0 where
    pub here : new a ≡ o
    pub others : (b : ℕ) → b ≢ a → new b ≡ old b

-- the interests with this subnet, or without it
pub record IsInterestIn (old new : AddressPrefix → Bool) (s : AddressPrefix) (b : Bool) : Type 0 where
  pub here : new s ≡ b
  pub others : (t : AddressPrefix) → t ≢ s → new t ≡ old t

-- the interests without the one that is given up, if one is
abbrev pub GivesUp : (AddressPrefix → Bool) → (AddressPrefix → Bool) → Option AddressPrefix → Type 0
GivesUp old new None = (t : AddressPrefix) → new t ≡ old t
GivesUp old new (Some s) = IsInterestIn old new s false
