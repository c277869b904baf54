use Rattle.std.proofs.Common.{◌≡◌, ◌++◌, ◌*◌, take, length, sym, ap, ◌∙◌, arith}
use Rattle.std.proofs.lemmas.Bool.Decides.{nat_tests}
use Rattle.journal_text.proofs.ReadLemmas.{characters_read, marker_read, octets_read, nothing_left}
use Rattle.journal_text.proofs.reader.TextReader.read_part.Goals as goal

pub returns-then-not-is_empty-clause-text : goal.returns-then-not-is_empty-clause-text
returns-then-not-is_empty-clause-text c =
    let r = c.self.inside in
    let read = c.copy_front-read in
    sym c.self.view_is
    ∙ (characters_read read.result r.characters.now c.split_at.result.1.now r.marker.now r.octets.now r.spans.now r.content.now read.new.room c.split_at.ensures.back read.ensures.front
    ∙ ap (λ t. take read.result read.new.room ++ t) (sym c.read_on.ensures ∙ sym c.self-then-not-is_empty.view_is))

pub returns-then-not-is_empty-2-clause-text : goal.returns-then-not-is_empty-2-clause-text
returns-then-not-is_empty-2-clause-text c =
    let r = c.self.inside in
    let read = c.write_digits-read in
    let none : length r.characters.now ≡ 0 = grind (arith, nat_tests) in
    sym c.self.view_is
    ∙ (marker_read read.result r.characters.now r.marker.now c.split_at-then-not-is_empty-2.result.1.now r.octets.now r.spans.now r.content.now read.new.room none c.split_at-then-not-is_empty-2.ensures.back read.ensures.front
    ∙ ap (λ t. take (2 * read.result) read.new.room ++ t) (sym c.read_on-then-not-is_empty-2.ensures ∙ sym c.self-then-not-is_empty-2.view_is))

pub returns-else-not-is_empty-2-clause-text : goal.returns-else-not-is_empty-2-clause-text
returns-else-not-is_empty-2-clause-text c =
    let r = c.self.inside in
    let read = c.write_digits-read-else-not-is_empty-2 in
    let none : length r.characters.now ≡ 0 = grind (arith, nat_tests) in
    let past : length r.marker.now ≡ 0 = grind (arith, nat_tests) in
    sym c.self.view_is
    ∙ (octets_read read.result r.characters.now r.marker.now r.octets.now c.split_at-else-not-is_empty-2.result.1.now r.spans.now r.content.now read.new.room none past c.split_at-else-not-is_empty-2.ensures.back read.ensures.front
    ∙ ap (λ t. take (2 * read.result) read.new.room ++ t) (sym c.read_on-else-not-is_empty-2.ensures ∙ sym c.self-else-not-is_empty-2.view_is))

pub returns-else-not-is_empty-2-clause-some : goal.returns-else-not-is_empty-2-clause-some
returns-else-not-is_empty-2-clause-some c room none =
    let r = c.self.inside in
    let characters : length r.characters.now ≡ 0 = grind (arith, nat_tests) in
    let marker : length r.marker.now ≡ 0 = grind (arith, nat_tests) in
    let octets : length r.octets.now ≡ 0 = grind (arith, c.write_digits-read-else-not-is_empty-2.ensures.some, room, none) in
    sym c.self.view_is ∙ nothing_left r.characters.now r.marker.now r.octets.now r.spans.now r.content.now c.self.invariant characters marker octets
