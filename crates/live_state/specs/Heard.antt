-- What peers have heard: the routes that each reaches by reading the octets of the lines `out J` of its session, as the neighbour that it
-- is (RFC 4271, sections 3.1, 4 and 9.1). This is a walk over the lines of an output, beside that of the journal.
use Rattle.std.specs.Prelude.{◌≡◌, ℕ, not, List, [], ◌∷◌, Option, Some}
use Rattle.std.specs.FinMap as tables
use Rattle.bgp_attr.specs.declared.speaker.Neighbour.{Neighbour}
use Rattle.bgp_attr.specs.declared.speaker.Profile.{Profile}
use Rattle.bgp_wire.specs.declared.message.Message.TheVariants.{Update}
use Rattle.bgp_wire.specs.declared.message.Update.{Update as Updated}
use Rattle.bgp_wire.specs.Grammar.{Reads}
use Rattle.journal_text.specs.Lines.{Line}
use Rattle.journal_text.specs.declared.line.Line.TheVariants.{Out, Journal}
use Rattle.journal_text.specs.declared.entry.Entry.TheVariants.{Begin, End}
use Rattle.journal_text.specs.declared.link.Link.TheVariants.{Adv}
use Rattle.live_state.specs.Messages.{changes_of}
use Rattle.live_state.specs.Lives.{Routes, with_routes, routes_after}

-- what each peer has heard in its session, by the peer's number
abbrev pub Views : Type 0
Views = ℕ → Routes

abbrev pub no_views : Views
no_views j = tables.empty

-- The octets that peer j gets are an UPDATE, which it reads by the profile, as one that is internal or external as it is, and takes in as
-- a peer's UPDATE is taken in here (section 3.1): its routes of the profile's family are what that makes of them. Octets that are no UPDATE, or have a fault,
-- nobody takes in.
pub record HearsOctets (profile : Profile) (w : Neighbour) (j : ℕ) (octets : List ℕ) (v v' : Views) : Type 0 where
  pub update : Updated
  pub reads : Reads profile (not w.internal) octets (Update update)
  pub after : v' ≡ with_routes v j (routes_after (v j) (changes_of profile update))

-- One line, where this is the profile and these are the peers. With its link `adv.J.S` a session begins, in which nothing was heard yet, and ends, and with it go
-- the routes that were heard in it (section 8.2.2). Nobody hears of a route by any other line: a NOTIFICATION (`note J`) has none, and the
-- session that it ends (section 6) ends with that link.
abbrev pub HearsLine : Profile → (ℕ → Option Neighbour) → Line → Views → Views → Type 0
HearsLine profile peers (Out j octets) v v' = (w : Neighbour) × (peers j ≡ Some w) × HearsOctets profile w j octets v v'
HearsLine profile peers (Journal (Begin (Adv j s))) v v' = v' ≡ with_routes v j tables.empty
HearsLine profile peers (Journal (End (Adv j s))) v v' = v' ≡ with_routes v j tables.empty
HearsLine profile peers other v v' = v' ≡ v

-- one line after the other
abbrev pub Hears : Profile → (ℕ → Option Neighbour) → Views → List Line → Views → Type 0
Hears profile peers v [] v' = v' ≡ v
Hears profile peers v (line ∷ lines) v' = (between : Views) × HearsLine profile peers line v between × Hears profile peers between lines v'
