use Rattle.std.proofs.Common.{◌≡◌, ◌∙◌, ◌++◌, [], ◌∷◌, List, ℕ, length, min, ap, refl, append_assoc, arith}
use Rattle.std.specs.Prelude.{string_bytes, codes}
use Rattle.std.specs.Fmt.{decimal}
use Rattle.std.proofs.lemmas.Result.{IfOk-weaker}
use Rattle.hex.specs.Hex.{encode_lower}
use Rattle.disk_integrity.proofs.sum.RunningSum.line.Goals as goal

abbrev line_of : ℕ → List ℕ → List ℕ
line_of size digest = decimal size ++ codes " " ++ digest ++ 10 ∷ []

pub returns : goal.returns
returns c =
    IfOk-weaker c.format.result _ _
    (λ s h. λ bytes of small.
    let flat : string_bytes s ≡ line_of c.args.self.now.size (string_bytes c.in_ok-digest.digest) = h ∙ simp append_assoc refl in
    let counted : c.args.self.now.size ≡ min (length bytes) 18446744073709551615 = of.size in
    let size : c.args.self.now.size ≡ length bytes = omega arith in
    flat ∙ ap (λ (n : ℕ). line_of n (string_bytes c.in_ok-digest.digest)) size ∙ ap (line_of (length bytes)) (c.in_ok-digest.ensures ∙ ap encode_lower (c.digest.ensures bytes of)))
    c.format.ensures.ok
