-- The laws of turns and blocks, over those of the parts.
use Rattle.bgp_wire.specs.Grammar.{EachHasOne}
use Rattle.router_determinism.specs.One.{TurnIsOne, TurnsHaveWork, DrainIsOne, PhaseIsOne, PhasesAreOne, BlockIsOne, ListingIsOne}
use Rattle.router_determinism.specs.Parts.{PartsAreOne}
use Rattle.chain_determinism.proofs.PeerLemmas as chains
use Rattle.chain_determinism.proofs.StageLemmas as stages
use Rattle.chain_determinism.proofs.TreeLemmas as trees
use Rattle.hop_determinism.proofs.RegisterLemmas as registers
use Rattle.hop_determinism.proofs.ResolverLemmas as resolvers
use Rattle.hop_determinism.proofs.SideLemmas as sides
use Rattle.hop_determinism.proofs.TurnLemmas as hops
use Rattle.forward_determinism.proofs.FallLemmas as falls
use Rattle.forward_determinism.proofs.TurnLemmas as forward
use Rattle.forward_determinism.proofs.ListLemmas as lists
use Rattle.exit_determinism.proofs.ExitLemmas as exits
use Rattle.exit_determinism.proofs.QueueLemmas as queues
use Rattle.router_determinism.proofs.OneTurns.{turn_is_one, turn_has_work}
use Rattle.router_determinism.proofs.OneRuns.{drain_is_one, phase_is_one, phases_are_one}
use Rattle.router_determinism.proofs.OneBlocks.{block_is_one}

parts : PartsAreOne
parts = record {
  feed = chains.feed_is_one;
  turn = chains.turn_is_one;
  work = chains.turns_have_work;
  weld = chains.weld_is_one;
  loss = chains.loss_is_one;
  edit = chains.edit_is_one;
  row = stages.stage_row_is_one;
  route = trees.route_fall_is_one;
  sweep = trees.loss_fall_is_one;
  hops = record {
    takes = sides.takes_hop_is_one;
    turns = sides.turns_below_is_one;
    work = sides.turns_with_work;
    reaches = sides.reaches_is_one;
    registered = registers.registered_is_one;
    cover = registers.cover_is_one;
  };
  reached = forward.reached_is_one hops.stale_is_one;
  interior = forward.interior_is_one;
  external = falls.external_is_one resolvers.clients_register_is_one resolvers.kept_is_one;
  external_turn = forward.turn_is_one hops.turned_is_one resolvers.clients_register_is_one;
  external_work = forward.turn_has_work hops.turned_has_work;
  listed = lists.listed_is_one;
  exits = record {
    put = exits.put_is_one;
    take = queues.taken_is_one;
    reader = queues.reader_is_one;
    begin = exits.beginning_is_one;
    end = exits.end_is_one;
    edit = exits.edit_is_one;
    turn = exits.turn_is_one;
    resend = exits.resend_is_one;
    unread = queues.taken_is_unread;
    work = exits.turn_has_work;
    refresh = exits.resend_has_work;
  };
}

pub turn_law : TurnIsOne
turn_law task m one other said more stands t u = turn_is_one parts task m said more one other stands t u

pub work_law : TurnsHaveWork
work_law task m m' said t = turn_has_work parts task m said m' t

pub drain_law : DrainIsOne
drain_law task m one other said more turns count stands t u = drain_is_one parts task m said more turns count one other stands t u

pub phase_law : PhaseIsOne
phase_law phase m one other said more turns count stands t u = phase_is_one parts phase m said more turns count one other stands t u

pub phases_law : PhasesAreOne
phases_law phases m one other said more turns count stands t u = phases_are_one parts phases m said more turns count one other stands t u

pub block_law : EachHasOne → BlockIsOne
block_law law m one other event said more turns count stands formed f g = block_is_one parts m said more turns count one other stands law event formed f g

pub listing_law : ListingIsOne
listing_law rows one other f g = lists.listed_is_one rows one other f.order f.each f.all g.order g.each g.all
