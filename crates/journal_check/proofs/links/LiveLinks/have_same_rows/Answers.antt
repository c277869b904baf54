use Rattle.journal_check.proofs.DemandLemmas.{same_on}
use Rattle.journal_check.proofs.links.LiveLinks.have_same_rows.Goals as goal

pub returns-in-Some-get : goal.returns-in-Some-get
returns-in-Some-get c =
    let told = same_on c.args.self.now c.args.upper c.args.lower c.in-Some.first.now c.in-Some-get.second.now c.in-Some.ensures c.in-Some-get.ensures in
    (λ h. told.0 (c.same.ensures.0 h), λ h. c.same.ensures.1 (told.1 h))
