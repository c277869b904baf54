-- What stands in the exits and can be printed and read back.
use Rattle.std.specs.Prelude.{◌≡◌, ℕ, [], Some, None}
use Rattle.std.specs.Option.{ForSome}
use Rattle.std.specs.List.{AllByRecursion}
use Rattle.std.specs.FinMap as tables
use Rattle.addr4.specs.Prefixes.{AddressPrefix}
use Rattle.bgp_attr.specs.Attributes.{Attrs}
use Rattle.bgp_attr.specs.Routes.{Route}
use Rattle.bgp_attr.specs.declared.speaker.Profile.{Profile}
use Rattle.link_change.specs.Rows.{Rows}
use Rattle.link_change.specs.Changes.{Change}
use Rattle.peer_out.specs.Changes.{MayBeHeard}
use Rattle.fanout_queue.specs.Queues.{Queued}
use Rattle.fanout_queue.specs.Readers.{unread_by}
use Rattle.journal_text.specs.Names.{IsNamed}
use Rattle.journal_text.specs.Values.{attrs_value, route_value}
use Rattle.journal_text.specs.declared.link.Link.TheVariants.{Adv}
use Rattle.addr4.specs.Families.{IsPrefixOf}
use Rattle.journal_laws.specs.Printed.{Printing, IsPrintable}
use Rattle.out_chain.specs.Chains.{OutChained}
use Rattle.exit_side.specs.Exits.{Exited, chain_at}

-- a row of `best` that can be said to a peer, and printed at its prefix, where this is the profile, and lines are printed so
pub record IsPrintableBest (profile : Profile) (printing : Printing) (p : AddressPrefix) (row : Route) : Type 0 where
  pub prefix : IsPrefixOf printing.v6 p
  pub heard : MayBeHeard profile row.attrs
  -- this speaker's own routes have no attributes that it doesn't know
  pub own : row.from ≡ None → row.attrs.unrecognized ≡ []
  pub printed : IsPrintable printing (route_value row)

-- each row is such,
abbrev pub AreBestRows : Profile → Printing → Rows Route → Type 0
AreBestRows profile printing best = (p : AddressPrefix) → ForSome (best p) (IsPrintableBest profile printing p)

-- and so are those before and after a change.
pub record IsBestChange (profile : Profile) (printing : Printing) (change : Change Route) : Type 0 where
  pub prefix : IsPrefixOf printing.v6 change.prefix
  pub before : ForSome change.before (IsPrintableBest profile printing change.prefix)
  pub after : ForSome change.after (IsPrintableBest profile printing change.prefix)

-- each change that a reader hasn't taken is such
abbrev pub AreBestChanges : Profile → Printing → Queued Route → Type 0
AreBestChanges profile printing queued = (reader : ℕ) → AllByRecursion (IsBestChange profile printing) (unread_by queued reader)

-- what was sent at a prefix can be printed
pub record IsPrintableSent (printing : Printing) (p : AddressPrefix) (attrs : Attrs) : Type 0 where
  pub prefix : IsPrefixOf printing.v6 p
  pub printed : IsPrintable printing (attrs_value attrs)

-- a chain whose links can be named, and all of whose rows can be printed
pub record IsPrintableExit (printing : Printing) (j : ℕ) (c : OutChained) : Type 0 where
  pub named : IsNamed (Adv j c.session)
  pub sent : (p : AddressPrefix) → ForSome (tables.get c.sent p) (IsPrintableSent printing p)

-- Each chain of the exits is such, and each change that a reader hasn't taken; and the routes are those of the network whose lines are
-- printed.
pub record ArePrintableExits (profile : Profile) (printing : Printing) (e : Exited) : Type 0 where
  pub family : profile.second ≡ printing.v6
  pub unread : AreBestChanges profile printing e.queue
  pub each : (j : ℕ) (c : OutChained) → chain_at j e ≡ Some c → IsPrintableExit printing j c
