use Rattle.ng_mtrace.proofs.PlainLines.{plain-end, plain-old, plain-make, plain-new}
use Rattle.ng_mtrace.proofs.plain.plain_kind.Goals as goal

pub returns-in-Some : goal.returns-in-Some
returns-in-Some c =
    let last = c.in_ok-before in
    let sign = c.in-Some in
    plain-end c.args.line.now last.before.now sign.field-0.now last.last last.ensures sign.ensures

pub returns-in-Some-before_word : goal.returns-in-Some-before_word
returns-in-Some-before_word c =
    let last = c.in_ok-before in
    let sign = c.in-Some-before_word in
    plain-old c.args.line.now last.before.now sign.field-0.now last.last last.ensures sign.ensures

pub returns-in-Some-before_word-2 : goal.returns-in-Some-before_word-2
returns-in-Some-before_word-2 c =
    let last = c.in_ok-before in
    let mid = c.in_ok-before_word in
    let second = c.in_ok-before-2 in
    let sign = c.in-Some-before_word-2 in
    plain-make c.args.line.now last.before.now mid.field-0.now second.before.now sign.field-0.now last.last second.name
    last.ensures mid.ensures second.ensures sign.ensures

pub returns-in-Some-before_word-3 : goal.returns-in-Some-before_word-3
returns-in-Some-before_word-3 c =
    let last = c.in_ok-before in
    let mid = c.in_ok-before_word in
    let second = c.in_ok-before-2 in
    let sign = c.in-Some-before_word-3 in
    plain-new c.args.line.now last.before.now mid.field-0.now second.before.now sign.field-0.now last.last second.name
    last.ensures mid.ensures second.ensures sign.ensures
