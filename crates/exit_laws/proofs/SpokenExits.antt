-- `local6`, where no peer was declared yet: what the exits have can be printed, and said, also where routes of IPv6 are read in messages.
use Rattle.std.proofs.Common.{◌≡◌, ℕ, List, [], ◌∷◌, length, Option, Some, None, ap, arith, ◌∙◌}
use Rattle.std.specs.List.{AllByRecursion}
use Rattle.bgp_attr.specs.Attributes.{Attrs}
use Rattle.bgp_attr.specs.Routes.{Route}
use Rattle.bgp_attr.specs.declared.speaker.Profile.{Profile}
use Rattle.addr4.specs.Prefixes.{AddressPrefix}
use Rattle.link_change.specs.Changes.{Change}
use Rattle.fanout_queue.specs.Readers.{unread_by}
use Rattle.journal_text.specs.Texts.{sender_number}
use Rattle.event_text.specs.FileEvents.{with_ipv6}
use Rattle.peer_out.specs.Changes.{MayBeHeard}
use Rattle.exit_side.specs.Exits.{Exited, written_by}
use Rattle.journal_laws.specs.Printed.{Printing}
use Rattle.exit_laws.specs.Printable.{IsPrintableBest, IsBestChange, ArePrintableExits}

still_heard : (profile : Profile) (a : Attrs) → a.unrecognized ≡ [] → MayBeHeard profile a → MayBeHeard (with_ipv6 profile) a
still_heard profile a none is = record {
  path = is.path;
  next_hop = is.next_hop;
  med = is.med;
  local_pref = is.local_pref;
  aggregator = is.aggregator;
  originator = is.originator;
  clusters = is.clusters;
  order = is.order;
  types = λ k d below. absurd (let empty : length a.unrecognized ≡ 0 = ap length none in omega (arith, below, empty));
}

module _ (profile : Profile) (printing : Printing) (none : (k : ℕ) → printing.peers k ≡ None) where
  still_best : (p : AddressPrefix) (row : Route) → IsPrintableBest profile printing p row → IsPrintableBest (with_ipv6 profile) printing p row
  still_best p row is = record {
    prefix = is.prefix;
    heard = still_heard profile row.attrs (is.own (is.printed.well_told.told.1 ∙ none (sender_number row.from))) is.heard;
    own = is.own;
    printed = is.printed;
  }

  still_change : (change : Change Route) → IsBestChange profile printing change → IsBestChange (with_ipv6 profile) printing change
  still_change change is = record {
    prefix = is.prefix;
    before = λ r there. still_best change.prefix r (is.before r there);
    after = λ r there. still_best change.prefix r (is.after r there);
  }

  still_all : (changes : List (Change Route)) → AllByRecursion (IsBestChange profile printing) changes → AllByRecursion (IsBestChange (with_ipv6 profile) printing) changes
  still_all [] all = tt
  still_all (change ∷ changes) all = (still_change change all.0, still_all changes all.1)

  pub spoken_exits_print : (e : Exited) → ArePrintableExits profile printing e → ArePrintableExits (with_ipv6 profile) printing (written_by (with_ipv6 profile) e)
  spoken_exits_print e is = record {
    family = is.family;
    unread = λ reader. still_all (unread_by e.queue reader) (is.unread reader);
    each = is.each;
  }
