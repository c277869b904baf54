-- What one change of `ebgp` or `ibgp` causes: of `ext`, and of `fib`.
use Rattle.std.specs.Prelude.{◌≡◌, ℕ, List, [], ◌++◌, Option, Some, None}
use Rattle.std.specs.Option.{option_or}
use Rattle.link_change.specs.Rows.{Rows}
use Rattle.link_change.specs.Changes.{Change}
use Rattle.rib_route.specs.Rows.{Interior}
use Rattle.rib_route.specs.Rows.{External}
use Rattle.rib_route.specs.Rows.{FibRow}
use Rattle.rib_route.specs.Distances.{distance, external_proto}
use Rattle.rib_merge.specs.declared.merge.Side.{Side}
use Rattle.rib_merge.specs.declared.merge.Side.TheVariants.{Left, Right}
use Rattle.rib_merge.specs.Merging.{MergesOn}
use Rattle.register_interest.specs.Registers.{Registry}
use Rattle.nexthop_resolver.specs.Ways.{Way}
use Rattle.nexthop_resolver.specs.Kept.{way_of}
use Rattle.nexthop_resolver.specs.Resolving.{Resolving}
use Rattle.nexthop_resolver.specs.Registered.{told_of}
use Rattle.nexthop_resolver.specs.Takes.{Keeps}
use Rattle.rib_split.specs.declared.split.BgpLink.{BgpLink}
use Rattle.rib_split.specs.declared.split.BgpLink.TheVariants as sides
use Rattle.rib_split.specs.Splits.{Split}
use Rattle.rib_split.specs.declared.split.Split.TheVariants.{Neither, One, Moved}
use Rattle.rib_split.specs.Splitting.{other}
use Rattle.ext_int.specs.Fibs.{TakesExt}
use Rattle.journal_text.specs.declared.link.Link.TheVariants.{Ext, Fib}
use Rattle.journal_text.specs.Lines.{Entry}
use Rattle.journal_text.specs.Lines.{Value}
use Rattle.journal_text.specs.Values.{external_value, fib_value, valued_change, sent_entries}
use Rattle.rib_exit.specs.Exits.{journal_link}

-- a change of `ext`, or none, and a change of `fib`, or none
pub record Caused : Type 0 where
  pub ext : Option (Change External)
  pub fib : Option (Change FibRow)

abbrev pub nothing_caused : Caused
nothing_caused = record { ext = None; fib = None }

-- ---- lines
-- what is caused on `ext`, and then on `fib`
abbrev pub caused_entries : Caused → List (Entry Value)
caused_entries caused = sent_entries external_value Ext caused.ext ++ sent_entries fib_value Fib caused.fib

-- a change of one of the two links, and then what it causes
abbrev pub part_entries : BgpLink → Change External → Caused → List (Entry Value)
part_entries link change caused = valued_change external_value (journal_link link) change ++ caused_entries caused

-- Of a change of the best routes: the change of the one link that changes, and what it causes; or, where a route moves from one
-- link to the other, the add with all that it causes, and then the delete with all that that causes.
abbrev pub fall_entries : Split → Caused → Caused → List (Entry Value)
fall_entries Neither first second = []
fall_entries (One link change) first second = part_entries link change first
fall_entries (Moved link add delete) first second = part_entries link add first ++ part_entries (other link) delete second

-- ---- how it is caused
-- the side of the merge that the link is on
abbrev pub side_of : BgpLink → Side
side_of sides.Ebgp = Left
side_of sides.Ibgp = Right

abbrev pub external_distance : External → ℕ
external_distance r = distance (external_proto r)

-- a change of `ext` goes on through what is known of next hops; without one all stays
abbrev pub TakesCaused : Rows Interior → Registry Interior → Resolving Way → Resolving Way → Option (Change External) → Option (Change FibRow) → Type 0
TakesCaused int was old new None sent = (new ≡ old) × (sent ≡ None)
TakesCaused int was old new (Some merged) sent = TakesExt int old new merged sent × Keeps (told_of way_of was) old new

-- A change of a link goes down, where the other link has this row at its prefix.
pub record PassesDown (link : BgpLink) (change : Change External) (row : Option External) (int : Rows Interior) (was : Registry Interior) (old new : Resolving Way) (sent : Option (Change FibRow)) (entries : List (Entry Value)) : Type 0 where
  pub caused : Caused
  pub comes : sent ≡ caused.fib
  pub lines : entries ≡ part_entries link change caused
  pub merges : MergesOn external_distance (side_of link) change row caused.ext
  pub takes : TakesCaused int was old new caused.ext caused.fib

-- A route moves to this link from the other: the add goes down, where the other link has still the row that is deleted then; and
-- then the delete, where this link has the row that was added.
pub record PassesBoth (link : BgpLink) (add delete : Change External) (int : Rows Interior) (was : Registry Interior) (old new : Resolving Way) (sent : Option (Change FibRow)) (entries : List (Entry Value)) : Type 0 where
  pub mid : Resolving Way
  pub between : Registry Interior
  pub same_rows : between.rows ≡ was.rows
  pub first_sent : Option (Change FibRow)
  pub second_sent : Option (Change FibRow)
  pub first_entries : List (Entry Value)
  pub second_entries : List (Entry Value)
  pub first : PassesDown link add delete.before int was old mid first_sent first_entries
  pub second : PassesDown (other link) delete add.after int between mid new second_sent second_entries
  pub lines : entries ≡ first_entries ++ second_entries
  pub comes : sent ≡ option_or first_sent second_sent
