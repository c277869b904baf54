-- An UPDATE that was read once, for both networks.
use Rattle.std.proofs.Common.{◌≡◌, ℕ, Bool, true, false, not, cond, List, [], ◌∷◌, ◌++◌, Option, Some, None, refl, ap, sym, subst, ◌∙◌}
use Rattle.addr4.specs.Prefixes.{AddressPrefix}
use Rattle.bgp_attr.specs.Attributes.{Attrs}
use Rattle.bgp_attr.specs.declared.speaker.Profile.{Profile}
use Rattle.bgp_wire.specs.Attributes.{Attribute, AreAttributes}
use Rattle.bgp_wire.specs.Grammar.{Reads, IsReading, IsSaidBy, AreAttrsFor}
use Rattle.bgp_wire.specs.Routes.{AreAttrs}
use Rattle.bgp_wire.specs.Said.{Said}
use Rattle.bgp_wire.specs.Updates.{Reading, lacks}
use Rattle.bgp_wire.specs.declared.message.Message.TheVariants as messages
use Rattle.bgp_wire.specs.declared.message.Update.{Update}
use Rattle.event_text.specs.declared.event.Event.TheVariants.{Nothing, Down, Bgp}
use Rattle.event_text.specs.Declarations.{peer_at}
use Rattle.live_state.specs.Laws.{SessionsEnd}
use Rattle.live_state.specs.Messages.{Says, ends_session}
use Rattle.router.specs.Ties.{in_second}
use Rattle.router.specs.Told.{told_message}
use Rattle.router.specs.Laws.{UpdateIsTold}
use Rattle.router.proofs.ReadingLemmas.{judged_same}

-- ---- whose network reads it doesn't matter
module _ (p : Profile) (external : Bool) where
  are_same : (seen bytes : List ℕ) (steps : List (Attribute × _)) (runs : Bool) → AreAttributes p external seen bytes steps runs → AreAttributes (in_second p) external seen bytes steps runs
  are_same seen bytes [] false are = are
  are_same seen bytes [] true are = are
  are_same seen bytes (s ∷ steps) runs are = (are.0, are.1, are.2, judged_same p external seen s.0 ∙ are.3, are_same (seen ++ s.0.kind ∷ []) are.0 steps runs are.4)

  lacks_same : (ns ms : List AddressPrefix) (kept : List Attribute) → lacks (in_second p) ns ms kept ≡ lacks p ns ms kept
  lacks_same [] [] kept = refl
  lacks_same [] (m ∷ ms) kept = refl
  lacks_same (n ∷ ns) ms kept = refl

  attrs_same : (kept : List Attribute) (hop : Option ℕ) (attrs : Attrs) → AreAttrs p external kept hop attrs → AreAttrs (in_second p) external kept hop attrs
  attrs_same kept hop attrs are = record {
    origin = are.origin;
    path = are.path;
    next_hop = are.next_hop;
    med = are.med;
    local_pref = are.local_pref;
    atomic = are.atomic;
    aggregator = are.aggregator;
    originator = are.originator;
    clusters = are.clusters;
    unrecognized = record { order = are.unrecognized.order; values = are.unrecognized.values };
  }

  for_same : (kept : List Attribute) (hop : Option ℕ) (ns : List AddressPrefix) (attrs : Option Attrs) → AreAttrsFor p external kept hop ns attrs → AreAttrsFor (in_second p) external kept hop ns attrs
  for_same kept hop [] attrs are = are
  for_same kept hop (n ∷ ns) None are = absurd are
  for_same kept hop (n ∷ ns) (Some attrs) are = attrs_same kept hop attrs are

  said_same : (kept : List Attribute) (withdraw : Bool) (hop : Option ℕ) (ws ns : List AddressPrefix) (s : Said) → IsSaidBy p external kept withdraw hop ws ns s → IsSaidBy (in_second p) external kept withdraw hop ws ns s
  said_same kept true hop ws ns s is = is
  said_same kept false hop ws ns s is = record { withdrawn = is.withdrawn; announced = is.announced; attrs = for_same kept hop ns s.attrs is.attrs }

  reading_same : (bytes : List ℕ) (r : Reading) → IsReading p external bytes r → IsReading (in_second p) external bytes r
  reading_same bytes r is = record {
    withdrawn = is.withdrawn;
    attributes = is.attributes;
    announced = is.announced;
    first_high = is.first_high;
    first_low = is.first_low;
    second_high = is.second_high;
    second_low = is.second_low;
    frame = is.frame;
    withdrawn_size = is.withdrawn_size;
    attributes_size = is.attributes_size;
    withdraws = is.withdraws;
    announces = is.announces;
    reaches = is.reaches;
    unreaches = is.unreaches;
    steps = is.steps;
    runs = is.runs;
    lacking = is.lacking;
    are = are_same [] is.attributes is.steps is.runs is.are;
    kept = is.kept;
    complete = lacks_same r.announced _ r.kept ∙ is.complete;
    withdraw = is.withdraw;
  }

  update_same : (bytes : List ℕ) (u : Update) → Reads p external bytes (messages.Update u) → Reads (in_second p) external bytes (messages.Update u)
  update_same bytes u reads =
      let r = reads.0 in (
        r,
        reading_same bytes r reads.1,
        record { first = said_same r.kept r.withdraw _ _ _ u.first reads.2.first; second = said_same r.kept r.withdraw _ _ _ u.second reads.2.second },
      )

-- ---- it is told
pub update_told : SessionsEnd → UpdateIsTold
update_told law d d6 k octets u t are =
    let external = not are.peer.words.internal in
    let goes_on : ends_session d.profile external octets ≡ false = sym (law d.profile are.peer octets (messages.Update u) are.says) in
    record {
      is_told = ap (told_message d k octets) are.there ∙ (ap (λ b. cond (not b) Nothing (cond (ends_session d.profile external octets) (Down k) (Bgp k octets))) are.up ∙ ap (λ e. cond e (Down k) (Bgp k octets)) goes_on);
      are = record {
        peer = are.peer;
        there = ap (peer_at k) t.peers ∙ are.there;
        up = are.up;
        says = subst (λ (f : Profile). Says f are.peer octets (messages.Update u)) (sym t.profile) (update_same d.profile external octets u are.says);
      };
    }
