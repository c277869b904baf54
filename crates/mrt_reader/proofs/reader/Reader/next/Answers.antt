use Rattle.std.proofs.Common.{ap, sym, subst, ◌∙◌, ◌≡◌, ◌≤◌, ◌<◌, Ok, Err, List, ℕ, length, min, arith}
use Rattle.std.proofs.lemmas.Bool.Decides.{nat_tests}
use Rattle.mrt_reader.specs.Fields.{said_in}
use Rattle.mrt_reader.specs.Kept.{IsKeptOf, said_of}
use Rattle.mrt_reader.specs.Sources.{Reading, left_by}
use Rattle.mrt_reader.proofs.FileLemmas.{room_kept}
use Rattle.mrt_reader.proofs.AnswerLemmas.{head_read, gives_refused, too_many, cut_in_body, passed_on, fails_in_body, malformed, reads_one}
use Rattle.mrt_reader.proofs.reader.Reader.next.Goals as goal

pub read_body-body-requires : goal.read_body-body-requires
read_body-body-requires g c = λ used.
    let t = c.in_ok-take_body.ensures.taken in
    subst (λ (xs : List ℕ). min c.read_header-header.result.length 4120 ≤ length xs) (sym c.as_slice-2.ensures.value)
    (room_kept c.self.inside.as4 c.read_header-header.result c.take_body.new.body.items t.0 (t.3 (ap Ok c.if-not-branch.false)) used)

pub returns-then-self-ge-MOST_RECORDS-clause-gives : goal.returns-then-self-ge-MOST_RECORDS-clause-gives
returns-then-self-ge-MOST_RECORDS-clause-gives g c =
    let r : Reading = record { as4 = c.self.inside.as4; number = c.self.inside.number; written = c.self.inside.written; unread = c.self.inside.unread } in
    let same : c.args.self.now ≡ r = sym c.self.view_is in
    let t = c.in_ok-whole.ensures.taken in
    let some : 0 < length c.take.new.out.items = grind (arith, nat_tests) in
    gives_refused _ r _ _ _ _ _ _ c.refuse.result same c.clear.ensures.items
    (too_many r.as4 (left_by r (g.S.Source.left c.args.source.now)) _ r.number _ c.take.new.out.items t.0 c.in_ok-whole.whole c.clear-2.ensures.items t.1 some c.if-self-ge-MOST_RECORDS.true c.self.invariant t.2)
    c.refuse.ensures.answer c.refuse.ensures.line

pub returns-then-not-branch-clause-gives : goal.returns-then-not-branch-clause-gives
returns-then-not-branch-clause-gives g c =
    let r : Reading = record { as4 = c.self.inside.as4; number = c.self.inside.number; written = c.self.inside.written; unread = c.self.inside.unread } in
    let same : c.args.self.now ≡ r = sym c.self.view_is in
    let t = c.in_ok-whole.ensures.taken in
    let f = head_read (left_by r (g.S.Source.left c.args.source.now)) _ _ c.take.new.out.items t.0 _ c.read_header-header.result c.in_ok-whole.whole c.if-not-whole.false c.clear-2.ensures.items t.1 c.as_slice.ensures.value c.read_header-header.ensures t.2 t.3 in
    let b = c.in_ok-take_body.ensures.taken in
    let few : r.number < 1000000000 = c.if-self-ge-MOST_RECORDS.false in
    gives_refused _ r _ _ _ _ _ _ c.refuse-then-not-branch.result same c.clear.ensures.items
    (cut_in_body r.as4 (left_by r (g.S.Source.left c.args.source.now)) _ _ r.number c.take.new.out.items b.0 c.read_header-header.result c.in_ok-take_body.field-0 few f c.if-not-branch.true b.1)
    c.refuse-then-not-branch.ensures.answer c.refuse-then-not-branch.ensures.line

pub returns-in_err-take_body-clause-read_fault : goal.returns-in_err-take_body-clause-read_fault
returns-in_err-take_body-clause-read_fault g c = λ is.
    let r : Reading = record { as4 = c.self.inside.as4; number = c.self.inside.number; written = c.self.inside.written; unread = c.self.inside.unread } in
    let same : c.args.self.now ≡ r = sym c.self.view_is in
    let t = c.in_ok-whole.ensures.taken in
    let f = head_read (left_by r (g.S.Source.left c.args.source.now)) _ _ c.take.new.out.items t.0 _ c.read_header-header.result c.in_ok-whole.whole c.if-not-whole.false c.clear-2.ensures.items t.1 c.as_slice.ensures.value c.read_header-header.ensures t.2 t.3 in
    let b = c.in_err-take_body.ensures.taken in
    let stop = passed_on c.from_residual-in_err-take_body.result _ c.in_err-take_body.field-0.0 is c.from_residual-in_err-take_body.ensures.1 in
    fails_in_body _ r _ _ _ _ c.take.new.out.items b.0 c.read_header-header.result c.in_err-take_body.field-0.0 same stop f b.1 (c.in_err-take_body.ensures.drained (ap Err stop))

pub returns-in-Malformed-clause-gives : goal.returns-in-Malformed-clause-gives
returns-in-Malformed-clause-gives g c =
    let r : Reading = record { as4 = c.self.inside.as4; number = c.self.inside.number; written = c.self.inside.written; unread = c.self.inside.unread } in
    let same : c.args.self.now ≡ r = sym c.self.view_is in
    let t = c.in_ok-whole.ensures.taken in
    let f = head_read (left_by r (g.S.Source.left c.args.source.now)) _ _ c.take.new.out.items t.0 _ c.read_header-header.result c.in_ok-whole.whole c.if-not-whole.false c.clear-2.ensures.items t.1 c.as_slice.ensures.value c.read_header-header.ensures t.2 t.3 in
    let b = c.in_ok-take_body.ensures.taken in
    let few : r.number < 1000000000 = c.if-self-ge-MOST_RECORDS.false in
    let kept : IsKeptOf r.as4 c.read_header-header.result c.as_slice-2.result.now b.0 =
    subst (λ (xs : List ℕ). IsKeptOf r.as4 c.read_header-header.result xs b.0) (sym c.as_slice-2.ensures.value) (b.3 (ap Ok c.if-not-branch.false)) in
    gives_refused _ r _ _ _ _ _ _ c.refuse-in-Malformed.result same c.clear.ensures.items
    (malformed r.as4 (left_by r (g.S.Source.left c.args.source.now)) _ _ r.number c.take.new.out.items c.as_slice-2.result.now b.0 c.read_header-header.result c.in_ok-take_body.field-0 c.read_body-body.result few f c.if-not-branch.false b.1
    (c.read_body-body.ensures.said b.0 kept) c.in-Malformed.is b.2)
    c.refuse-in-Malformed.ensures.answer c.refuse-in-Malformed.ensures.line

pub returns-clause-gives : goal.returns-clause-gives
returns-clause-gives g c =
    let r : Reading = record { as4 = c.self.inside.as4; number = c.self.inside.number; written = c.self.inside.written; unread = c.self.inside.unread } in
    let same : c.args.self.now ≡ r = sym c.self.view_is in
    let t = c.in_ok-whole.ensures.taken in
    let f = head_read (left_by r (g.S.Source.left c.args.source.now)) _ _ c.take.new.out.items t.0 _ c.read_header-header.result c.in_ok-whole.whole c.if-not-whole.false c.clear-2.ensures.items t.1 c.as_slice.ensures.value c.read_header-header.ensures t.2 t.3 in
    let b = c.in_ok-take_body.ensures.taken in
    let few : r.number < 1000000000 = c.if-self-ge-MOST_RECORDS.false in
    let again : c.as_slice-2.result.now ≡ c.as_slice-3.result.now = c.as_slice-2.ensures.value ∙ sym c.as_slice-3.ensures.value in
    let kept : IsKeptOf r.as4 c.read_header-header.result c.as_slice-2.result.now b.0 =
    subst (λ (xs : List ℕ). IsKeptOf r.as4 c.read_header-header.result xs b.0) (sym c.as_slice-2.ensures.value) (b.3 (ap Ok c.if-not-branch.false)) in
    reads_one _ r _ _ _ c.take-2.new.self c.take_body.new.unread c.take.new.out.items c.as_slice-3.result.now b.0 _ _ c.read_header-header.result c.in_ok-take_body.field-0 c.read_body-body.result same c.clear.ensures.items few f c.if-not-branch.false b.1
    (subst (λ (xs : List ℕ). said_of xs c.read_body-body.result ≡ said_in r.as4 c.read_header-header.result.kind c.read_header-header.result.subtype b.0) again (c.read_body-body.ensures.said b.0 kept)) c.in_default.not-Malformed c.in_ok-take.ensures.lines c.in_ok-take.ensures.behind b.2
