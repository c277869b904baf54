-- What both networks know of what was declared.
use Rattle.std.specs.Prelude.{◌≡◌, ℕ, true, Some}
use Rattle.bgp_attr.specs.Speakers.{Speaker}
use Rattle.bgp_attr.specs.declared.speaker.Profile.{Profile}
use Rattle.event_text.specs.Declarations.{Declaration}

-- how the second network reads messages: as the first does, but that its routes are IPv6's
abbrev pub in_second : Profile → Profile
in_second p = record p { second = true }

-- this speaker by another address
abbrev pub with_addr : ℕ → Speaker → Speaker
with_addr addr me = record me { addr = addr }

-- Both know the same peers, which of them are up and in which session, how messages are read, and this speaker but for its address. Each
-- keeps a copy, since what ties its parts to the declarations is said of one network.
pub record AreTied (a b : Declaration) : Type 0 where
  pub family : b.v6 ≡ true
  pub spoken : a.profile.v6 ≡ true
  pub profile : b.profile ≡ in_second a.profile
  pub me : Speaker
  pub addr : ℕ
  pub speaker : a.speaker ≡ Some me
  pub speaker6 : b.speaker ≡ Some (with_addr addr me)
  pub peers : b.peers ≡ a.peers
