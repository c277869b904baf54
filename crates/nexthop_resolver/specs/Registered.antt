-- What ties a resolver to the register.
use Rattle.std.specs.Prelude.{◌≡◌, ◌≢◌, ℕ, Bool, true, Option, Some}
use Rattle.std.specs.FinMap as map
use Rattle.addr4.specs.Prefixes.{AddressPrefix}
use Rattle.link_change.specs.Rows.{Rows}
use Rattle.register_interest.specs.Width.{width}
use Rattle.rib_route.specs.Rows.{Interior}
use Rattle.register_interest.specs.Covers.{longest, matched, IsSubnet}
use Rattle.register_interest.specs.Interests.{Interest}
use Rattle.register_interest.specs.Registers.{Registry}
use Rattle.nexthop_known.specs.Hops.{Hop}
use Rattle.nexthop_known.specs.Hops.{Hops, IsRenewed, learnt}
use Rattle.nexthop_known.specs.Agreement.{Agree, IsInterestIn}

-- the subnets in which a client has an interest
abbrev pub interest_of : {R : Type 0} → ℕ → Registry R → AddressPrefix → Bool
interest_of client r s = map.contains_key r.interests (record { subnet = s; client = client })

-- no row and no interest of another client is changed
pub record KeepsOthers {R : Type 0} (client : ℕ) (old new : Registry R) : Type 0 where
  pub rows : new.rows ≡ old.rows
  pub interests : (k : Interest) → k.client ≢ client → map.get new.interests k ≡ map.get old.interests k

-- the largest subnet that holds an address and in which each has its longest match
abbrev pub IsLargest : Rows Interior → ℕ → AddressPrefix → Type 0
IsLargest rows a s = IsSubnet width rows a (matched (longest width rows a)) s

module _ {A : Type 0} (kept : Option (AddressPrefix × Interior) → A) where
  -- A next hop has what is kept of the answer about its address, for both, and that came with the largest subnet for which it holds.
  pub record IsToldBy (rows : Rows Interior) (a : ℕ) (h : Hop A) : Type 0 where
    pub in_force : h.in_force ≡ kept (longest width rows a)
    pub fresh : h.fresh ≡ kept (longest width rows a)
    pub subnet : AddressPrefix
    pub came : h.came ≡ Some subnet
    pub largest : IsLargest rows a subnet

  -- so it is told by the register
  abbrev pub told_of : Registry Interior → ℕ → Hop A → Type 0
  told_of r = IsToldBy (map.get r.rows)

  -- what is kept of the register's answer about each address
  abbrev pub answer_of : Registry Interior → ℕ → A
  answer_of r a = kept (longest width (map.get r.rows) a)

  -- each known next hop that isn't stale has the present answer and its interest, and no interest is without one
  abbrev pub Agrees : ℕ → Hops A → Registry Interior → Type 0
  Agrees client known r = Agree (answer_of r) (interest_of client r) (map.get known)

  -- an interest came that known next hops needn't have
  pub record IsEarly (client : ℕ) (known : Hops A) (r : Registry Interior) (s : AddressPrefix) : Type 0 where
    pub before : AddressPrefix → Bool
    pub agree : Agree (answer_of r) before (map.get known)
    pub comes : IsInterestIn before (interest_of client r) s true

  -- an unknown next hop has the register's answer, for both, with the largest subnet for which it holds
  abbrev pub Learns : Registry Interior → Hops A → Hops A → ℕ → Type 0
  Learns r old new a = (s : AddressPrefix) × (new ≡ map.insert old a (learnt s (answer_of r a))) × IsLargest (map.get r.rows) a s

  -- a stale one has it as its fresh answer
  abbrev pub Renews : Registry Interior → Hops A → Hops A → ℕ → Type 0
  Renews r old new a = (s : AddressPrefix) × IsRenewed old new a s (answer_of r a) × IsLargest (map.get r.rows) a s
