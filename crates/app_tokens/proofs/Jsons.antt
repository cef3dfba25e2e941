-- Parts of tokens as JSON.
use Rattle.std.proofs.Common.{◌≡◌, ℕ, Bool, true, false, true≢false, cond, List, Option, Some, None, refl, sym, ap, ◌∙◌}
use Rattle.std.specs.Prelude.{Err, Ok, option_and_then}
use Rattle.std.specs.Result.{result_ok}
use Rattle.std.specs.Str.{IsUtf8, is_utf8}
use Rattle.std.proofs.lemmas.Str.{IsUtf8-from_is_utf8, is_utf8-from_IsUtf8}
use Rattle.base64.specs.Engines.{url_safe_no_pad}
use Rattle.base64.specs.GeneralPurpose.{decode_of}
use Rattle.base64.specs.declared.decode.DecodeError.{DecodeError}
use Rattle.serde_json.specs.Data.{Data}
use Rattle.serde_json.specs.Read.{read as read_text}
use Rattle.app_tokens.specs.Claims.{json_in, json_of}

-- a test is not both
pub not_both : (b : Bool) → b ≡ true → b ≡ false → ⊥
not_both b is isnt = true≢false (sym is ∙ isnt)

-- bytes that are JSON
pub json_some : (bytes : List ℕ) (d : Data) → IsUtf8 bytes → read_text bytes ≡ Some d → Some d ≡ json_of bytes
json_some bytes d utf8 e = sym (ap (λ (b : Bool). cond b (read_text bytes) None) (is_utf8-from_IsUtf8 bytes utf8) ∙ e)

none_if : (b : Bool) (bytes : List ℕ) → is_utf8 bytes ≡ b → (IsUtf8 bytes → read_text bytes ≡ None) → cond b (read_text bytes) None ≡ None
none_if true bytes is none = none (IsUtf8-from_is_utf8 bytes is)
none_if false bytes is none = refl

-- bytes that aren't
pub json_none : (bytes : List ℕ) → (IsUtf8 bytes → read_text bytes ≡ None) → None ≡ json_of bytes
json_none bytes none = sym (none_if (is_utf8 bytes) bytes refl none)

-- a part that is base64url
pub part_some : (part bytes : List ℕ) (r : Option Data) → decode_of url_safe_no_pad part ≡ Ok bytes → r ≡ json_of bytes → r ≡ json_in part
part_some part bytes r is e = e ∙ sym (ap (λ d. option_and_then json_of (result_ok d)) is)

-- a part that isn't
pub part_none : (part : List ℕ) (e : DecodeError) → decode_of url_safe_no_pad part ≡ Err e → None ≡ json_in part
part_none part e is = sym (ap (λ d. option_and_then json_of (result_ok d)) is)
