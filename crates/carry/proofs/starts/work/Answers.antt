use Rattle.std.proofs.Common.{subst, arith}
use Rattle.std.specs.Prelude.{Ok}
use Rattle.sheet.specs.Sheets.{Opens}
use Rattle.sheet.specs.declared.start.Start.TheVariants as start
use Rattle.answers.specs.declared.answer.Answer.TheVariants as answer
use Rattle.carry.specs.AnswerLists.{WorksText}
use Rattle.carry.proofs.ListFacts.{same_end}
use Rattle.carry.proofs.OpeningFacts.{duty_kind, collection_kind, boxes_kind, text_faulty, text_ends, text_goes_on, opens_duty, opens_collection, opens_boxes}
use Rattle.carry.proofs.starts.work.Goals as goal

pub returns-in_err-start : goal.returns-in_err-start
returns-in_err-start c =
    same_end (λ e. WorksText c.args.text.now c.args.answers.now e c.args.answers.now) c.from_residual.result _ c.from_residual.ensures.1
    (text_faulty c.args.text.now c.args.answers.now c.in_err-start.field-0.0 c.in_err-start.ensures.answer)

pub returns-in_err-entry-in-Duty : goal.returns-in_err-entry-in-Duty
returns-in_err-entry-in-Duty c =
    let s = c.args.answers.now in
    let t = c.begin.new.answers in
    let opened = subst (λ start. Opens c.args.text.now (Ok (start, c.in_ok-start.sheet))) c.in-Duty.is c.in_ok-start.ensures.answer in
    same_end (λ e. WorksText c.args.text.now s e t) c.from_residual-in_err-entry-in-Duty.result _ c.from_residual-in_err-entry-in-Duty.ensures.1
    (text_ends duty_kind c.in-Duty.days c.duty.result (answer.Duty c.in-Duty.days) (start.Duty c.in-Duty.days c.in-Duty.codes)
    (opens_duty c.in-Duty.days c.in-Duty.codes c.duty.result c.duty.ensures) c.args.text.now c.in_ok-start.sheet s t opened c.in_err-entry-in-Duty.field-0.0 c.in_err-entry-in-Duty.ensures)

pub returns-in_ok-entry-in-Duty : goal.returns-in_ok-entry-in-Duty
returns-in_ok-entry-in-Duty c =
    let s = c.args.answers.now in
    let t = c.begin.new.answers in
    let opened = subst (λ start. Opens c.args.text.now (Ok (start, c.in_ok-start.sheet))) c.in-Duty.is c.in_ok-start.ensures.answer in
    text_goes_on duty_kind c.in-Duty.days c.duty.result (answer.Duty c.in-Duty.days) (start.Duty c.in-Duty.days c.in-Duty.codes)
    (opens_duty c.in-Duty.days c.in-Duty.codes c.duty.result c.duty.ensures) c.args.text.now c.in_ok-start.sheet s t opened
    128 c.in_ok-entry-in-Duty.entry c.work_days.result c.work_days.new.answers (omega arith) c.in_ok-entry-in-Duty.ensures c.work_days.ensures

pub returns-in_err-entry-in-Collection : goal.returns-in_err-entry-in-Collection
returns-in_err-entry-in-Collection c =
    let s = c.args.answers.now in
    let t = c.begin-in-Collection.new.answers in
    let opened = subst (λ start. Opens c.args.text.now (Ok (start, c.in_ok-start.sheet))) c.in-Collection.is c.in_ok-start.ensures.answer in
    same_end (λ e. WorksText c.args.text.now s e t) c.from_residual-in_err-entry-in-Collection.result _ c.from_residual-in_err-entry-in-Collection.ensures.1
    (text_ends collection_kind c.in-Collection.days c.collection-entry.result (answer.Collection c.in-Collection.days) (start.Collection c.in-Collection.days c.in-Collection.codes c.in-Collection.counts)
    (opens_collection c.in-Collection.days c.in-Collection.codes c.in-Collection.counts c.collection-entry.result c.collection-entry.ensures) c.args.text.now c.in_ok-start.sheet s t opened c.in_err-entry-in-Collection.field-0.0 c.in_err-entry-in-Collection.ensures)

pub returns-in_ok-entry-in-Collection : goal.returns-in_ok-entry-in-Collection
returns-in_ok-entry-in-Collection c =
    let s = c.args.answers.now in
    let t = c.begin-in-Collection.new.answers in
    let opened = subst (λ start. Opens c.args.text.now (Ok (start, c.in_ok-start.sheet))) c.in-Collection.is c.in_ok-start.ensures.answer in
    text_goes_on collection_kind c.in-Collection.days c.collection-entry.result (answer.Collection c.in-Collection.days) (start.Collection c.in-Collection.days c.in-Collection.codes c.in-Collection.counts)
    (opens_collection c.in-Collection.days c.in-Collection.codes c.in-Collection.counts c.collection-entry.result c.collection-entry.ensures) c.args.text.now c.in_ok-start.sheet s t opened
    128 c.in_ok-entry-in-Collection.entry c.work_days-in-Collection.result c.work_days-in-Collection.new.answers (omega arith) c.in_ok-entry-in-Collection.ensures c.work_days-in-Collection.ensures

pub returns-in_err-entry-in-Boxes : goal.returns-in_err-entry-in-Boxes
returns-in_err-entry-in-Boxes c =
    let s = c.args.answers.now in
    let t = c.begin-in-Boxes.new.answers in
    let opened = subst (λ start. Opens c.args.text.now (Ok (start, c.in_ok-start.sheet))) c.in-Boxes.is c.in_ok-start.ensures.answer in
    same_end (λ e. WorksText c.args.text.now s e t) c.from_residual-in_err-entry-in-Boxes.result _ c.from_residual-in_err-entry-in-Boxes.ensures.1
    (text_ends boxes_kind c.in-Boxes.days c.new.result (answer.Boxes c.in-Boxes.days) (start.Boxes c.in-Boxes.days c.in-Boxes.low c.in-Boxes.high)
    (opens_boxes c.in-Boxes.days c.in-Boxes.low c.in-Boxes.high c.new.result c.new.ensures) c.args.text.now c.in_ok-start.sheet s t opened c.in_err-entry-in-Boxes.field-0.0 c.in_err-entry-in-Boxes.ensures)

pub returns-in_ok-entry-in-Boxes : goal.returns-in_ok-entry-in-Boxes
returns-in_ok-entry-in-Boxes c =
    let s = c.args.answers.now in
    let t = c.begin-in-Boxes.new.answers in
    let opened = subst (λ start. Opens c.args.text.now (Ok (start, c.in_ok-start.sheet))) c.in-Boxes.is c.in_ok-start.ensures.answer in
    text_goes_on boxes_kind c.in-Boxes.days c.new.result (answer.Boxes c.in-Boxes.days) (start.Boxes c.in-Boxes.days c.in-Boxes.low c.in-Boxes.high)
    (opens_boxes c.in-Boxes.days c.in-Boxes.low c.in-Boxes.high c.new.result c.new.ensures) c.args.text.now c.in_ok-start.sheet s t opened
    128 c.in_ok-entry-in-Boxes.entry c.work_days-in-Boxes.result c.work_days-in-Boxes.new.answers (omega arith) c.in_ok-entry-in-Boxes.ensures c.work_days-in-Boxes.ensures
