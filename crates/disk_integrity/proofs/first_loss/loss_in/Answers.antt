use Rattle.std.proofs.Common.{◌≡◌, ◌∙◌, ◌↔◌, ℕ, Bool, List, IsTrue, drop, subst, refl, sym, true≢false}
use Rattle.std.proofs.lemmas.List.{take_rest}
use Rattle.disk_integrity.specs.Checked.{SumsHold}
use Rattle.disk_integrity.specs.Parts.{IsCutRecord, records_end}
use Rattle.disk_integrity.specs.Losses.{IsLoss}
use Rattle.disk_integrity.specs.declared.loss.Loss.TheVariants.{NoCutRecord}
use Rattle.disk_integrity.proofs.first_loss.loss_in.Goals as goal

pub returns-else-is_cut_record : goal.returns-else-is_cut_record
returns-else-is_cut_record c =
    let one = c.args.one.now in
    let bytes = one.bytes.items in
    let offset = c.records_end-offset.result in
    let there = c.deref-4.ensures.value in
    let told = subst (λ (x : List ℕ). IsTrue c.is_cut_record.result ↔ IsCutRecord (drop offset x)) there
    (subst (λ (x : List ℕ). IsTrue c.is_cut_record.result ↔ IsCutRecord x) (take_rest c.deref-4.result.now offset) c.is_cut_record.ensures) in
    let sums = subst (λ (x : List ℕ). SumsHold x one.sums.items c.in_default.field-0) c.deref.ensures.value
    (subst (λ (x : List ℕ). SumsHold c.deref.result.now x c.in_default.field-0) c.deref-2.ensures.value c.in_default.ensures.holds) in
    let end = subst (λ (x : List ℕ). offset ≡ records_end x) c.deref-3.ensures.value c.records_end-offset.ensures.end in
    subst (λ (b : Bool). IsLoss b c.args.checkpoint.now one (NoCutRecord one.number offset)) (sym c.if-not-is_taken.false)
    (refl, (c.in_default.field-0, sums), end, λ cut. true≢false (sym (told.1 cut) ∙ c.if-is_cut_record.false))
