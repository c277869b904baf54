-- BGP's best routes on the two links above the RIB (NSDI 2005, section 5.2).
use Rattle.std.specs.Prelude.{◌≡◌, ℕ, Bool, not, if◌then◌else◌, Option, Some, None}
use Rattle.addr4.specs.Prefixes.{AddressPrefix}
use Rattle.bgp_attr.specs.Routes.{Route}
use Rattle.bgp_attr.specs.declared.speaker.Neighbour.{Neighbour}
use Rattle.rib_route.specs.Rows.{External}
use Rattle.link_change.specs.Rows.{Rows}
use Rattle.link_change.specs.Changes.{IsSent, IsChangeOf}
use Rattle.link_change.specs.Changes.{Change}
use Rattle.rib_split.specs.declared.split.BgpLink.{BgpLink}
use Rattle.rib_split.specs.declared.split.BgpLink.TheVariants.{Ebgp, Ibgp}
use Rattle.rib_split.specs.Splits.{Split}
use Rattle.rib_split.specs.declared.split.Split.TheVariants.{Neither, One, Moved}

-- what forwarding needs of a route that a peer sent; nothing of one of this speaker's own
abbrev pub external_of : Option Neighbour → ℕ → Option External
external_of None next_hop = None
external_of (Some peer) next_hop = Some (record { internal = peer.internal; next_hop = next_hop })

abbrev pub external_row : Option Route → Option External
external_row None = None
external_row (Some r) = external_of r.from r.attrs.next_hop

-- the link that a row stands on
abbrev pub link_of : External → BgpLink
link_of r = if r.internal then Ibgp else Ebgp

abbrev pub other : BgpLink → BgpLink
other Ebgp = Ibgp
other Ibgp = Ebgp

-- whether the link is the one of internal peers' routes, or of external ones'
abbrev pub is_of : BgpLink → Bool → Bool
is_of Ibgp internal = internal
is_of Ebgp internal = not internal

-- the row, if it is one of this link
abbrev pub on_link : BgpLink → Option External → Option External
on_link link None = None
on_link link (Some r) = if is_of link r.internal then Some r else None

-- the rows of both links
abbrev pub Parted : Type 0
Parted = BgpLink → Rows External

-- those that the best routes make: on `ebgp` of the routes from external peers, on `ibgp` of those from internal ones
abbrev pub split_rows : Rows Route → Parted
split_rows upper link q = on_link link (external_row (upper q))

-- the new rows on this link, and still the old ones on the other
abbrev pub first_on : BgpLink → Parted → Parted → Parted
first_on Ebgp old new Ebgp = new Ebgp
first_on Ebgp old new Ibgp = old Ibgp
first_on Ibgp old new Ebgp = old Ebgp
first_on Ibgp old new Ibgp = new Ibgp

-- the change leads on this link from the old rows to the new ones, and the other link stays
abbrev pub IsSentOn : BgpLink → Parted → Parted → AddressPrefix → Change External → Type 0
IsSentOn link old new p change = IsSent (old link) (new link) p (Some change) × (new (other link) ≡ old (other link))

-- a route moves to this link from the other one: an add on this link goes first, and then a delete on the other
pub record Moves (link : BgpLink) (old new : Parted) (p : AddressPrefix) (add delete : Change External) : Type 0 where
  pub adds : add.before ≡ None
  pub deletes : delete.after ≡ None
  pub first : IsSentOn link old (first_on link old new) p add
  pub second : IsSentOn (other link) (first_on link old new) new p delete

-- what goes on leads, in its order, from the old rows of the two links to the new ones; nothing goes on where they stay
abbrev pub Splits : Parted → Parted → AddressPrefix → Split → Type 0
Splits old new p Neither = new ≡ old
Splits old new p (One link change) = IsSentOn link old new p change
Splits old new p (Moved link add delete) = Moves link old new p add delete

-- ---- at one prefix
abbrev pub adding : AddressPrefix → External → Change External
adding p row = record { prefix = p; before = None; after = Some row }

abbrev pub deleting : AddressPrefix → External → Change External
deleting p row = record { prefix = p; before = Some row; after = None }

-- the change of the row that stands on a link, where this row stood and that one stands
abbrev pub IsChangeOn : BgpLink → AddressPrefix → Option External → Option External → Option (Change External) → Type 0
IsChangeOn link p before after sent = IsChangeOf p (on_link link before) (on_link link after) sent

-- what goes on where this row stood and that one stands
abbrev pub IsSplitOf : AddressPrefix → Option External → Option External → Split → Type 0
IsSplitOf p before after Neither = after ≡ before
IsSplitOf p before after (One link change) = IsChangeOn link p before after (Some change) × IsChangeOn (other link) p before after None
IsSplitOf p before after (Moved link add delete) =
    IsChangeOn link p before after (Some add) × IsChangeOn (other link) p before after (Some delete) × (add.before ≡ None) × (delete.after ≡ None)
