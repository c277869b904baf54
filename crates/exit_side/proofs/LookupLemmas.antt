-- Lookups on the links of the exits.
use Rattle.std.proofs.Common.{◌≡◌, Option, Some, subst}
use Rattle.bgp_attr.specs.Routes.{Route}
use Rattle.link_change.specs.Rows.{Rows, Candidates, CoversRows}
use Rattle.fanout_queue.specs.Queues.{Queued}
use Rattle.fanout_queue.specs.Readers.{read_rows, read_candidates}
use Rattle.journal_text.specs.declared.link.Link.{Link}
use Rattle.journal_text.specs.Lines.{Value}
use Rattle.journal_text.specs.Links.{owner_of}
use Rattle.out_chain.specs.Chains.{OutChained, out_links, out_candidates}
use Rattle.exit_side.specs.Exits.{Exited, chain_at, links_by, exit_links, candidates_by, exit_candidates}

-- the candidates of a chain's link cover its rows, and so do those of the exits, of whom the chain is one
pub covers_in : (e : Exited) (queue : Queued Route) (link : Link) (c : OutChained) (best : Rows Route) (candidates : Candidates) → queue ≡ e.queue → Some c ≡ chain_at (owner_of link) e
    → ((rows : Rows Value) → out_links c (read_rows queue c.reader best) link ≡ Some rows → CoversRows (out_candidates c (read_candidates queue c.reader candidates) link) rows)
    → (rows : Rows Value) → exit_links e best link ≡ Some rows → CoversRows (exit_candidates e candidates link) rows
covers_in e queue link c best candidates is at covers =
    subst (λ (o : Option OutChained). (rows : Rows Value) → links_by e.queue best o link ≡ Some rows → CoversRows (candidates_by e.queue candidates o link) rows) at
    (subst (λ (q : Queued Route). (rows : Rows Value) → out_links c (read_rows q c.reader best) link ≡ Some rows → CoversRows (out_candidates c (read_candidates q c.reader candidates) link) rows) is covers)
