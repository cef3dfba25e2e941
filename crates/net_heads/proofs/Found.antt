-- The fields of a head, one after the other.
use Rattle.std.proofs.Common.{◌≡◌, ℕ, ◌+◌, ◌<◌, true, false, cond, List, [], ◌∷◌, ◌++◌, length, take, get_or, map, refl, ap, ◌∙◌}
use Rattle.std.proofs.lemmas.List.{take_more, map-append}
use Rattle.std.proofs.lemmas.List.Elements.{filter-append}
use Rattle.httparse.specs.declared.spans.HeaderSpan.{HeaderSpan}
use Rattle.httparse.specs.Spans.{header_bytes}
use Rattle.net_heads.specs.Fields.{NamesAndValues, has_name, values_named}

-- the value of one field, where it has the name
pub one_value : (name : List ℕ) (field : List ℕ × List ℕ) → values_named name (field ∷ []) ≡ cond (has_name name field) (field.1 ∷ []) []
one_value name field =
    elim (has_name name field) as (λ b. map (λ (f : List ℕ × List ℕ). f.1) (cond b (field ∷ []) []) ≡ cond b (field.1 ∷ []) []) [ true ↦ refl | false ↦ refl ]

-- the values of fields and of more fields
pub values_named-append : (name : List ℕ) (xs ys : NamesAndValues) → values_named name (xs ++ ys) ≡ values_named name xs ++ values_named name ys
values_named-append name xs ys =
    ap (map (λ (f : List ℕ × List ℕ). f.1)) (filter-append (has_name name) xs ys) ∙ map-append (λ (f : List ℕ × List ℕ). f.1) _ _

-- one span more is one field more
pub fields_more : (bytes : List ℕ) (spans : List HeaderSpan) (i : ℕ) (d : HeaderSpan) → i < length spans
    → map (header_bytes bytes) (take (i + 1) spans) ≡ map (header_bytes bytes) (take i spans) ++ header_bytes bytes (get_or spans i d) ∷ []
fields_more bytes spans i d below =
    ap (map (header_bytes bytes)) (take_more spans i d below) ∙ map-append (header_bytes bytes) (take i spans) (get_or spans i d ∷ [])

-- the values of one span more
pub values_named-more : (name bytes : List ℕ) (spans : List HeaderSpan) (i : ℕ) (d : HeaderSpan) → i < length spans
    → values_named name (map (header_bytes bytes) (take (i + 1) spans))
    ≡ values_named name (map (header_bytes bytes) (take i spans))
    ++ cond (has_name name (header_bytes bytes (get_or spans i d))) ((header_bytes bytes (get_or spans i d)).1 ∷ []) []
values_named-more name bytes spans i d below =
    ap (values_named name) (fields_more bytes spans i d below)
    ∙ values_named-append name (map (header_bytes bytes) (take i spans)) (header_bytes bytes (get_or spans i d) ∷ [])
    ∙ ap (λ (vs : List (List ℕ)). values_named name (map (header_bytes bytes) (take i spans)) ++ vs) (one_value name (header_bytes bytes (get_or spans i d)))
