-- What the parts of the router do leaves no choice: the laws of the crates below, on which those of turns and blocks stand.
use Rattle.bgp_attr.specs.Routes.{Route}
use Rattle.rib_route.specs.Rows.{Interior}
use Rattle.chain_determinism.specs.Laws as chains
use Rattle.exit_determinism.specs.Laws as exits
use Rattle.forward_determinism.specs.Laws as forward
use Rattle.hop_determinism.specs.Laws as hops

-- ---- the exits, and the queue that they read
pub record ExitsAreOne : Type 0 where
  pub put : exits.PutIsOne
  pub take : exits.TakenIsOne Route
  pub reader : exits.ReaderIsOne Route
  pub begin : exits.BeginningIsOne
  pub end : exits.EndIsOne
  pub edit : exits.EditIsOne
  pub turn : exits.TurnIsOne
  pub resend : exits.ResendIsOne
  pub unread : exits.TakenIsUnread
  pub work : exits.TurnHasWork
  pub refresh : exits.ResendHasWork

-- ---- the resolvers, and the register that they ask
pub record HopsAreOne : Type 0 where
  pub takes : hops.TakesHopIsOne
  pub turns : hops.TurnsBelowIsOne
  pub work : hops.TurnsWithWork
  pub reaches : hops.ReachesIsOne
  pub registered : hops.RegisteredIsOne Interior
  pub cover : hops.CoverIsOne Interior

-- ---- all of them
pub record PartsAreOne : Type 0 where
  pub feed : chains.FeedIsOne
  pub turn : chains.TurnIsOne
  pub work : chains.TurnsHaveWork
  pub weld : chains.WeldIsOne
  pub loss : chains.LossIsOne
  pub edit : chains.EditIsOne
  pub row : chains.StageRowIsOne Interior
  pub route : chains.RouteFallIsOne
  pub sweep : chains.LossFallIsOne
  pub hops : HopsAreOne
  pub reached : forward.ReachedIsOne
  pub interior : forward.InteriorIsOne
  pub external : forward.ExternalIsOne
  pub external_turn : forward.TurnIsOne
  pub external_work : forward.TurnHasWork
  pub listed : forward.ListedIsOne
  pub exits : ExitsAreOne
