use Rattle.std.proofs.Common.{◌≡◌, ◌++◌, List, IsTrue, true, refl, sym, ◌∙◌, ap, subst}
use Rattle.std.specs.Prelude.{slice_index_or}
use Rattle.std.specs.List.{AllByRecursion}
use Rattle.canvas_shelf.specs.Disk.{Content, bytes_of, is_listed}
use Rattle.canvas_journal.specs.Opening.{paired}
use Rattle.canvas_journal.proofs.Paired.{each_listed, seen_paired}
use Rattle.app_admin.proofs.Lines.{tail_listed}
use Rattle.app_storage.proofs.Copying.{copied_on}
use Rattle.app_storage.proofs.guarding.keep_each.Goals as goal

pub loop-number-init : goal.loop-number-init
loop-number-init g c =
    let disk = g.S.Shelf.disk c.args.shelf.now in
    let falls = λ (h : _). (g.met.S.Shelf.sound c.args.shelf.now h).falls in
    record {
      honest = refl;
      keeps = refl;
      disk = λ h. refl;
      listed = λ h. subst (AllByRecursion (λ n. is_listed n disk ≡ true)) (sym (c.requires h)) (each_listed disk (falls h));
      kept = λ h keeps. ap (λ (l : Content). g.C.Copies.kept c.args.copies.now ++ l) (ap (paired disk) (c.requires h) ∙ seen_paired disk (falls h));
    }

pub loop-number-preserved : goal.loop-number-preserved
loop-number-preserved g c =
    let disk = g.S.Shelf.disk c.args.shelf.now in
    let inv = c.loop-number.invariant in
    let i = c.loop-number.number-index in
    let l = c.args.listed.now in
    let n = slice_index_or l i 0 in
    let bytes = c.deref.result.now in
    let still = λ (h : _). subst IsTrue (sym inv.honest) h in
    let keeps = λ (k : _). subst IsTrue (sym inv.keeps) k in
    record {
      honest = c.read.ensures.honest ∙ inv.honest;
      keeps = c.put.ensures.honest ∙ inv.keeps;
      disk = λ h. (c.read.ensures.disk (still h)).0 ∙ inv.disk h;
      listed = λ h. tail_listed (λ n. is_listed n disk ≡ true) i l c.loop-number-test.true (inv.listed h);
      kept = λ h k. copied_on disk i l n bytes (g.C.Copies.kept c.loop-number.copies) (g.C.Copies.kept c.put.new.self) _ c.loop-number-test.true refl
          (c.deref.ensures.value ∙ c.in_ok-bytes.ensures.bytes (still h) ∙ ap (bytes_of n) (inv.disk h)) (c.in_ok-put.ensures.kept (keeps k)) (inv.kept h k);
    }
