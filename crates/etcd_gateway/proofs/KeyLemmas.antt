-- Keys, part by part.
use Rattle.std.proofs.Common.{◌≡◌, ◌<◌, ℕ, ◌^◌, true, false, List, ◌++◌, length, length-append, take, drop, append_assoc, codes, refl, sym, ◌∙◌, ap, arith}
use Rattle.std.specs.Cmp.Lexicographic.{other_text, pointwise, same_text}
use Rattle.std.specs.Prelude.{nat_eq, Option, None, Some, IfNone}
use Rattle.std.proofs.lemmas.List.{take-append-drop}
use Rattle.std.proofs.Math.Seq.{take-append_seam, drop-append_seam}
use Rattle.canvas_decimals.specs.Decimals.{ten_digits}
use Rattle.canvas_decimals.proofs.Decimals.{long_ten, ten_one}
use Rattle.etcd_gateway.specs.Keys.{EachKeyIsOneChunk, chunk_key, segment_key, segments_key}

-- ---- fronts of texts

-- what doesn't pass the test doesn't begin so
pub no_front : (s p : List ℕ) → pointwise nat_eq (take (length p) s) p ≡ false → (rest : List ℕ) → s ≡ p ++ rest → ⊥
no_front s p other rest e = other_text (take (length p) s) p (sym other) (ap (take (length p)) e ∙ take-append_seam p rest)

-- what passes it does
pub front : (s p x : List ℕ) → pointwise nat_eq (take (length p) s) p ≡ true → x ≡ drop (length p) s → s ≡ p ++ x
front s p x same is =
    sym (take-append-drop (length p) s) ∙ ap (λ (t : List ℕ). t ++ drop (length p) s) (same_text (take (length p) s) p (sym same)) ∙ ap (λ (t : List ℕ). p ++ t) (sym is)

-- ---- keys

-- two texts whose fronts are as long are equal where their fronts and their backs are
fronts : (a b c d : List ℕ) → length a ≡ length c → a ++ b ≡ c ++ d → a ≡ c
fronts a b c d same e = sym (take-append_seam a b) ∙ ap (λ (n : ℕ). take n (a ++ b)) same ∙ ap (take (length c)) e ∙ take-append_seam c d

pub backs : (a b c d : List ℕ) → length a ≡ length c → a ++ b ≡ c ++ d → b ≡ d
backs a b c d same e = sym (drop-append_seam a b) ∙ ap (λ (n : ℕ). drop n (a ++ b)) same ∙ ap (drop (length c)) e ∙ drop-append_seam c d

-- behind the same front stand a number, a byte and a number
one_place : (front between : List ℕ) (s c o p : ℕ) → s < 10 ^ 10 → c < 10 ^ 10 → o < 10 ^ 10 → p < 10 ^ 10
    → (front ++ ten_digits s) ++ (between ++ ten_digits c) ≡ (front ++ ten_digits o) ++ (between ++ ten_digits p) → (s ≡ o) × (c ≡ p)
one_place front between s c o p s_less c_less o_less p_less e =
    let same : length (front ++ ten_digits s) ≡ length (front ++ ten_digits o) =
    omega (arith, length-append front (ten_digits s), length-append front (ten_digits o), long_ten s, long_ten o) in
    let segments = backs front (ten_digits s) front (ten_digits o) refl (fronts (front ++ ten_digits s) (between ++ ten_digits c) (front ++ ten_digits o) (between ++ ten_digits p) same e) in
    let chunks = backs between (ten_digits c) between (ten_digits p) refl (backs (front ++ ten_digits s) (between ++ ten_digits c) (front ++ ten_digits o) (between ++ ten_digits p) same e) in
    (ten_one s o s_less o_less segments, ten_one c p c_less p_less chunks)

pub every_key : EachKeyIsOneChunk
every_key name s c o p s_less c_less o_less p_less e =
    one_place (segments_key name ++ codes "/") (codes "/") s c o p s_less c_less o_less p_less
    (sym (append_assoc (segment_key name s) (codes "/") (ten_digits c)) ∙ e ∙ append_assoc (segment_key name o) (codes "/") (ten_digits p))

regroup_key : (p x s y c : List ℕ) → p ++ x ++ s ++ y ++ c ≡ p ++ x ++ (s ++ y ++ c)
regroup_key p x s y c = simp append_assoc

regroup_front : (l n g h r : List ℕ) → l ++ (n ++ ((g ++ h) ++ r)) ≡ l ++ n ++ g ++ h ++ r
regroup_front l n g h r = simp append_assoc

-- a chunk's key, part by part
pub key_parts : (name : List ℕ) (segment chunk : ℕ) → chunk_key name segment chunk ≡ segments_key name ++ codes "/" ++ (ten_digits segment ++ codes "/" ++ ten_digits chunk)
key_parts name segment chunk = regroup_key (segments_key name) (codes "/") (ten_digits segment) (codes "/") (ten_digits chunk)

pub place_long : (digits : List ℕ) (s c : ℕ) → digits ≡ ten_digits s ++ codes "/" ++ ten_digits c → length digits ≡ 21
place_long digits s c e =
    omega (arith, ap length e, length-append (ten_digits s ++ codes "/") (ten_digits c), length-append (ten_digits s) (codes "/"), long_ten s, long_ten c)

pub place_segment : (digits : List ℕ) (s c : ℕ) → digits ≡ ten_digits s ++ codes "/" ++ ten_digits c → take 10 digits ≡ ten_digits s
place_segment digits s c e =
    ap (take 10) (e ∙ append_assoc (ten_digits s) (codes "/") (ten_digits c)) ∙ ap (λ (n : ℕ). take n (ten_digits s ++ (codes "/" ++ ten_digits c))) (sym (long_ten s))
    ∙ take-append_seam (ten_digits s) (codes "/" ++ ten_digits c)

pub place_chunk : (digits : List ℕ) (s c : ℕ) → digits ≡ ten_digits s ++ codes "/" ++ ten_digits c → drop 10 digits ≡ codes "/" ++ ten_digits c
place_chunk digits s c e =
    ap (drop 10) (e ∙ append_assoc (ten_digits s) (codes "/") (ten_digits c)) ∙ ap (λ (n : ℕ). drop n (ten_digits s ++ (codes "/" ++ ten_digits c))) (sym (long_ten s))
    ∙ drop-append_seam (ten_digits s) (codes "/" ++ ten_digits c)

pub key_rest : (name rest : List ℕ) (s c : ℕ) (key : List ℕ) → key ≡ segments_key name ++ codes "/" ++ rest → key ≡ chunk_key name s c → rest ≡ ten_digits s ++ codes "/" ++ ten_digits c
key_rest name rest s c key is e =
    backs (segments_key name ++ codes "/") rest (segments_key name ++ codes "/") (ten_digits s ++ codes "/" ++ ten_digits c) refl (sym is ∙ e ∙ key_parts name s c)

-- what stands behind the three parts of a front
pub behind : (key name named behind rest : List ℕ) → key ≡ codes "lugcurrant/" ++ named → named ≡ name ++ behind → behind ≡ codes "/segment/" ++ rest
    → key ≡ segments_key name ++ codes "/" ++ rest
behind key name named b rest e f g =
    e ∙ ap (λ (t : List ℕ). codes "lugcurrant/" ++ t) (f ∙ ap (λ (t : List ℕ). name ++ t) g)
    ∙ regroup_front (codes "lugcurrant/") name (codes "/segment") (codes "/") rest

pub unbehind : (key name named rest : List ℕ) → key ≡ codes "lugcurrant/" ++ named → key ≡ segments_key name ++ codes "/" ++ rest → named ≡ name ++ (codes "/segment/" ++ rest)
unbehind key name named rest e f =
    let g : codes "lugcurrant/" ++ named ≡ codes "lugcurrant/" ++ (name ++ (codes "/segment/" ++ rest)) = sym e ∙ f ∙ sym (regroup_front (codes "lugcurrant/") name (codes "/segment") (codes "/") rest) in
    backs (codes "lugcurrant/") named (codes "lugcurrant/") (name ++ (codes "/segment/" ++ rest)) refl g

pub unnamed : (name named b rest : List ℕ) → named ≡ name ++ b → named ≡ name ++ (codes "/segment/" ++ rest) → b ≡ codes "/segment/" ++ rest
unnamed name named b rest e f = backs name b name (codes "/segment/" ++ rest) refl (sym e ∙ f)

-- ---- options

pub weaker_none : {A : Type 0} (o : Option A) (P Q : Type 0) → (P → Q) → IfNone o P → IfNone o Q
weaker_none None P Q f h = f h
weaker_none (Some a) P Q f h = h
