-- What the forwarding side has, behind a change of `int` and what it made of this speaker's own routes.
use Rattle.router_moments.proofs.Common.{sym, subst, ◌∙◌, ap, ◌≡◌, List, Route, Speaker, Rows, IsSent, Change, Interior, int_rows, own_rows, all_at, best_at, Moment, with_exits, Entry, Value, IsExits, PeerRows, filt_at, StandsOver, HaveReaders}
use Rattle.std.proofs.Common.{Option, Some}
use Rattle.router_moments.specs.Moments.{read_rows_by}
use Rattle.router_moments.specs.Turns.{FollowsOwn}
use Rattle.router_moments.specs.Works.{Informs, Redistributes}
use Rattle.router_moments.proofs.QueueLemmas.{queue_live, queue_sound, queue_rows}
use Rattle.router_moments.proofs.RibLinks.{DecidesTo, own_rows_are, own_comes}
use Rattle.router_network.specs.Informed.{Contested, InformedOver}

module _ (change : Change Interior) (contests : Contested) (m m1 m2 : Moment) (entries : List (Entry Value)) (over : InformedOver (Some change) contests m) (informs : Informs change m m1) (own : Redistributes change m1 m2 entries) (sound : IsExits m.exits) where
  abbrev told : Moment
  told = record m { registry = m1.registry; hops = m1.hops; rib = m1.rib }

  follows : FollowsOwn own.me change m.redist m.chains m1.hops (int_rows m.tree) m.exits m2.exits entries
  follows = subst (λ (n : Moment). FollowsOwn own.me change n.redist n.chains n.hops (int_rows n.tree) n.exits m2.exits entries) informs.after own.own

  local : m.declared.speaker ≡ Some own.me
  local = ap (λ (n : Moment). n.declared.speaker) (sym informs.after) ∙ own.local

  abbrev before : Rows Route
  before = own_rows m.declared.speaker m.redist over.over.int

  abbrev now : Rows Route
  now = own_rows m.declared.speaker m.redist (int_rows m.tree)

  moved : IsSent before now over.over.prefix follows.own
  moved = subst (λ (s : Option Speaker). IsSent (own_rows s m.redist over.over.int) (own_rows s m.redist (int_rows m.tree)) over.over.prefix follows.own) (sym local) (follows.passed over.over.int (int_rows m.tree) over.over.prefix over.over.comes)

  decides : DecidesTo 0 follows.own follows.decided.best (all_at now m.chains m1.hops)
  decides = subst (λ (rows : Rows Route). DecidesTo 0 follows.own follows.decided.best (all_at rows m.chains m1.hops)) (sym (own_rows_are m.declared.speaker own.me m.redist (int_rows m.tree) local)) follows.decided.decides

  chosen : IsSent (best_at before m.chains m.hops) (best_at now m.chains m1.hops) over.over.prefix follows.decided.best
  chosen = decides (all_at before m.chains m.hops) over.over.prefix
      (own_comes follows.own before now m.chains m.hops m1.hops over.over.prefix moved (λ j. ap (λ (u : PeerRows). u j) (informs.informed.resolvers.stays.rows (filt_at m.chains))))

  -- what it has stays
  same : read_rows_by m2.exits.queue m.reader (best_at now m.chains m1.hops) ≡ read_rows_by m.exits.queue m.reader (best_at before m.chains m.hops)
  same = queue_rows m.exits m2.exits follows.decided.best m.reader (best_at before m.chains m.hops) (best_at now m.chains m1.hops) over.over.prefix over.read.reader follows.queued chosen

  pub int_readers : HaveReaders m2
  int_readers = subst HaveReaders (sym (own.after ∙ ap (λ (n : Moment). with_exits n m2.exits) informs.after)) (record {
    exits = queue_sound m.exits m2.exits follows.decided.best follows.queued sound;
    reader = λ r is. queue_live m.exits m2.exits follows.decided.best follows.queued r (over.read.reader r is);
    external = informs.informed.external.stays.stands (read_rows_by m2.exits.queue m.reader (best_at now m.chains m1.hops)) (subst (λ (rows : Rows Route). StandsOver rows m.rib) (sym same) over.read.external);
  })
