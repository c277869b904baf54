use Rattle.loss_chain.proofs.FeedLemmas.{feeds_bring_one_row, losses_bring_no_row, lowest_rows_are_rows, no_row_at_first, turns_bring_no_row, welds_bring_no_row}
use Rattle.loss_chain.proofs.laws.each_row_is_fed.Goals as goal

pub returns-clause-first : goal.returns-clause-first
returns-clause-first g c = no_row_at_first

pub returns-clause-feeds : goal.returns-clause-feeds
returns-clause-feeds g c = feeds_bring_one_row

pub returns-clause-losses : goal.returns-clause-losses
returns-clause-losses g c = losses_bring_no_row

pub returns-clause-welds : goal.returns-clause-welds
returns-clause-welds g c = welds_bring_no_row

pub returns-clause-turns : goal.returns-clause-turns
returns-clause-turns g c = turns_bring_no_row

pub returns-clause-lowest : goal.returns-clause-lowest
returns-clause-lowest g c = lowest_rows_are_rows
