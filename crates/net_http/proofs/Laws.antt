-- What the table says of hosts, handshakes, documents, origins and files.
use Rattle.std.proofs.Common.{◌≡◌, ◌≢◌, ℕ, Bool, true, false, cond, not, ◌&&◌, ◌||◌, ◌==◌, List, [], ◌∷◌, ◌++◌, length, codes, refl, sym, ap, ◌∙◌, subst, Option, Some, None, if◌then◌else◌}
use Rattle.std.specs.Option.{unwrap_or}
use Rattle.std.specs.List.{list_all, list_any}
use Rattle.std.specs.Str.{bytes_eq}
use Rattle.std.proofs.lemmas.Bool.{and_parts}
use Rattle.std.proofs.lemmas.Slice.Eq.{bytes_eq-Decides}
use Rattle.net_heads.specs.Fields.{NamesAndValues, values_named}
use Rattle.net_http.specs.declared.asked.Endpoint.{Endpoint}
use Rattle.net_http.specs.declared.asked.Endpoint.TheVariants as asked
use Rattle.net_http.specs.declared.asked.HttpRefusal.TheVariants as refusal
use Rattle.net_http.specs.declared.asked.PageFile.{PageFile}
use Rattle.net_http.specs.Fields.{is_handshake}
use Rattle.net_http.specs.Hosts.{is_own_host}
use Rattle.net_http.specs.Offers.{has_upgrade, is_key, is_offer, is_one, is_version, is_websocket, offered}
use Rattle.net_http.specs.Sites.{SiteValue}
use Rattle.net_http.specs.Table.{asked_by_handshake, asked_by_page, asked_file, asked_for, asked_here, file_at, is_document_path, is_origin_of, is_reading, is_welcome, is_well_formed, page_files, path_of, site_paths, value_at}

-- neither of two is the third
neither : {A : Type 0} (b : Bool) (x y z : A) → x ≢ z → y ≢ z → cond b x y ≢ z
neither true x y z p q = p
neither false x y z p q = q

-- where the first of two isn't the third, the second is
second : {A : Type 0} (b : Bool) (x y z : A) → x ≢ z → cond (not b) x y ≡ z → (b ≡ true) × (y ≡ z)
second true x y z other e = (refl, e)
second false x y z other e = absurd (other e)

-- an offer gets a connection or a refusal
offer_gets_no_file : (minor : ℕ) (fields : NamesAndValues) (file : PageFile) → offered minor fields ≢ asked.File file
offer_gets_no_file minor fields file =
    neither (not (length (values_named (codes "sec-websocket-version") fields) == 1)) _ _ _ (λ e. cc)
    (neither (not (list_all is_version (values_named (codes "sec-websocket-version") fields))) _ _ _ (λ e. cc)
    (neither (not (is_offer minor fields)) _ _ _ (λ e. cc) (λ e. cc)))

handshake_gets_no_file : (site : SiteValue) (method path : List ℕ) (hosts origins : List (List ℕ)) (offer : Endpoint) (file : PageFile)
    → offer ≢ asked.File file → asked_by_handshake site method path hosts origins offer ≢ asked.File file
handshake_gets_no_file site method path hosts origins offer file none =
    neither (not (bytes_eq method (codes "GET"))) _ _ _ (λ e. cc)
    (neither (not (is_document_path site path)) _ _ _ (λ e. cc)
    (neither (not (list_all (is_welcome site hosts) origins)) _ _ _ (λ e. cc) none))

-- a handshake is never answered by a file
pub no_file_for_a_handshake : (site : SiteValue) (minor : ℕ) (method target : List ℕ) (fields : NamesAndValues) (file : PageFile)
    → is_handshake fields ≡ true → asked_for site minor method target fields ≢ asked.File file
no_file_for_a_handshake site minor method target fields file is =
    neither (not (length (values_named (codes "host") fields) == 1)) _ _ _ (λ e. cc)
    (neither (not (list_all (is_own_host site) (values_named (codes "host") fields))) _ _ _ (λ e. cc)
    (neither (not (is_well_formed target fields)) _ _ _ (λ e. cc)
    (λ e. handshake_gets_no_file site method (path_of target) (values_named (codes "host") fields) (values_named (codes "origin") fields) (offered minor fields) file (offer_gets_no_file minor fields file)
    (sym (ap (λ (b : Bool). cond b (asked_by_handshake site method (path_of target) (values_named (codes "host") fields) (values_named (codes "origin") fields) (offered minor fields)) (asked_by_page site method (path_of target))) is) ∙ e))))

-- a request to a host that isn't the site's is told this and nothing else
pub foreign_host_is_refused : (site : SiteValue) (minor : ℕ) (method target : List ℕ) (fields : NamesAndValues) (host : List ℕ)
    → values_named (codes "host") fields ≡ host ∷ [] → is_own_host site host ≡ false → asked_for site minor method target fields ≡ asked.Refused refusal.Misdirected
foreign_host_is_refused site minor method target fields host one foreign =
    let here : List (List ℕ) → Endpoint = λ hosts. asked_here site minor method target hosts fields in
    ap (λ (hosts : List (List ℕ)). cond (not (length hosts == 1)) (asked.Refused refusal.BadRequest) (cond (not (list_all (is_own_host site) hosts)) (asked.Refused refusal.Misdirected) (here hosts))) one
    ∙ ap (λ (b : Bool). cond (not (b && true)) (asked.Refused refusal.Misdirected) (here (host ∷ []))) foreign

-- nothing in these rows is this
NoneIs : {A : Type 0} → A → List (List ℕ × A) → Type 0
NoneIs z [] = Unit {0}
NoneIs z (row ∷ rows) = (row.1 ≢ z) × NoneIs z rows

-- what isn't in the rows is the default
default_is : {A : Type 0} (path : List ℕ) (rows : List (List ℕ × A)) (d z : A) → NoneIs z rows → unwrap_or (value_at path rows) d ≡ z → d ≡ z
unfolding NoneIs
default_is path [] d z none e = e
default_is path (row ∷ rows) d z none e =
    elim (bytes_eq path row.0) as (λ (b : Bool). unwrap_or (if b then Some row.1 else value_at path rows) d ≡ z → d ≡ z)
    [ true ↦ (λ e. absurd (none.0 e)) | false ↦ (λ e. default_is path rows d z none.1 e) ] e

page_gets_no_connection : (site : SiteValue) (method path : List ℕ) → asked_by_page site method path ≢ asked.Connection
unfolding NoneIs
page_gets_no_connection site method path e =
    let found = (second (is_reading method) _ _ _ (λ e. cc) e).1 in
    no_file (file_at site path) (default_is path site_paths (asked_file (file_at site path)) asked.Connection ((λ e. cc), ((λ e. cc), ((λ e. cc), tt))) found)
  where
    no_file : (file : Option PageFile) → asked_file file ≢ asked.Connection
    no_file None = λ e. cc
    no_file (Some f) = λ e. cc

-- what a request to one of the site's hosts asks for that is well formed
here_and_well_formed : (site : SiteValue) (minor : ℕ) (method target : List ℕ) (fields : NamesAndValues) (z : Endpoint)
    → asked.Refused refusal.BadRequest ≢ z → asked.Refused refusal.Misdirected ≢ z → asked_for site minor method target fields ≡ z
    → ((length (values_named (codes "host") fields) == 1) ≡ true) × (list_all (is_own_host site) (values_named (codes "host") fields) ≡ true)
    × (cond (is_handshake fields) (asked_by_handshake site method (path_of target) (values_named (codes "host") fields) (values_named (codes "origin") fields) (offered minor fields)) (asked_by_page site method (path_of target)) ≡ z)
here_and_well_formed site minor method target fields z bad misdirected e =
    let one = second (length (values_named (codes "host") fields) == 1) _ _ _ bad e in
    let own = second (list_all (is_own_host site) (values_named (codes "host") fields)) _ _ _ misdirected one.1 in
    let formed = second (is_well_formed target fields) _ _ _ bad own.1 in
    (one.0, own.0, formed.1)

-- what gets its connection is a handshake to one of the site's hosts, for the document, whose origins are welcome and whose offer is whole
connected : (site : SiteValue) (minor : ℕ) (method target : List ℕ) (fields : NamesAndValues) → asked_for site minor method target fields ≡ asked.Connection
    → (is_document_path site (path_of target) ≡ true) × (list_all (is_welcome site (values_named (codes "host") fields)) (values_named (codes "origin") fields) ≡ true)
    × (list_all (is_own_host site) (values_named (codes "host") fields) ≡ true) × (offered minor fields ≡ asked.Connection)
connected site minor method target fields e =
    let here = here_and_well_formed site minor method target fields asked.Connection (λ e. cc) (λ e. cc) e in
    let more = by_kind (is_handshake fields) here.2 in
    (more.0, more.1, here.1, more.2)
  where
    by_kind : (b : Bool)
        → cond b (asked_by_handshake site method (path_of target) (values_named (codes "host") fields) (values_named (codes "origin") fields) (offered minor fields)) (asked_by_page site method (path_of target)) ≡ asked.Connection
        → (is_document_path site (path_of target) ≡ true) × (list_all (is_welcome site (values_named (codes "host") fields)) (values_named (codes "origin") fields) ≡ true) × (offered minor fields ≡ asked.Connection)
    by_kind true e =
        let at = second (bytes_eq method (codes "GET")) _ _ _ (λ e. cc) e in
        let path = second (is_document_path site (path_of target)) _ _ _ (λ e. cc) at.1 in
        let origin = second (list_all (is_welcome site (values_named (codes "host") fields)) (values_named (codes "origin") fields)) _ _ _ (λ e. cc) path.1 in
        (path.0, origin.0, origin.1)
    by_kind false e = absurd (page_gets_no_connection site method (path_of target) e)

-- a host that gets a connection is the machine itself, or one that the site names
pub only_own_hosts : (site : SiteValue) (minor : ℕ) (method target : List ℕ) (fields : NamesAndValues) (host : List ℕ)
    → asked_for site minor method target fields ≡ asked.Connection → values_named (codes "host") fields ≡ host ∷ [] → is_own_host site host ≡ true
only_own_hosts site minor method target fields host connects one =
    let own = (connected site minor method target fields connects).2 in
    let P : List (List ℕ) → Type 0 = λ hosts. list_all (is_own_host site) hosts ≡ true in
    (and_parts _ _ (subst P one own)).0

-- what gets its connection offers version 13 and one key
pub only_whole_offers : (site : SiteValue) (minor : ℕ) (method target : List ℕ) (fields : NamesAndValues)
    → asked_for site minor method target fields ≡ asked.Connection
    → (is_one is_version (values_named (codes "sec-websocket-version") fields) ≡ true) × (is_offer minor fields ≡ true)
only_whole_offers site minor method target fields connects =
    let offer = (connected site minor method target fields connects).3 in
    let one = second (length (values_named (codes "sec-websocket-version") fields) == 1) _ _ _ (λ e. cc) offer in
    let version = second (list_all is_version (values_named (codes "sec-websocket-version") fields)) _ _ _ (λ e. cc) one.1 in
    let whole = second (is_offer minor fields) _ _ _ (λ e. cc) version.1 in
    (ap (λ (b : Bool). b && list_all is_version (values_named (codes "sec-websocket-version") fields)) one.0 ∙ version.0, whole.0)

-- under `/document/` only the document's identity gets a connection
pub only_this_document : (site : SiteValue) (minor : ℕ) (method target : List ℕ) (fields : NamesAndValues) (identity : List ℕ)
    → asked_for site minor method target fields ≡ asked.Connection → path_of target ≡ codes "/document/" ++ identity → identity ≡ site.identity
only_this_document site minor method target fields identity connects at =
    let here = (connected site minor method target fields connects).0 in
    let P : List ℕ → Type 0 = λ path. is_document_path site path ≡ true in
    (bytes_eq-Decides identity site.identity).0 (subst P at here)

-- where the site names no origin, a page of another host gets no connection
pub no_foreign_page : (site : SiteValue) (minor : ℕ) (method target : List ℕ) (fields : NamesAndValues) (host origin : List ℕ)
    → site.origins ≡ [] → values_named (codes "host") fields ≡ host ∷ [] → values_named (codes "origin") fields ≡ origin ∷ []
    → is_origin_of host origin ≡ false → asked_for site minor method target fields ≢ asked.Connection
no_foreign_page site minor method target fields host origin none one_host one_origin other connects =
    let welcome = (connected site minor method target fields connects).1 in
    let P : List (List ℕ) → Type 0 = λ hosts. list_all (is_welcome site hosts) (values_named (codes "origin") fields) ≡ true in
    let Q : List (List ℕ) → Type 0 = λ origins. list_all (is_welcome site (host ∷ [])) origins ≡ true in
    let at_one : list_all (is_welcome site (host ∷ [])) (origin ∷ []) ≡ true = subst Q one_origin (subst P one_host welcome) in
    let R : List (List ℕ) → Type 0 = λ origins. (((is_origin_of host origin || false) || list_any (λ named. bytes_eq named origin) origins) && true) ≡ true in
    let S : Bool → Type 0 = λ b. (((b || false) || false) && true) ≡ true in
    let wrong : false ≡ true = subst S other (subst R none at_one) in
    cc

-- a file is served only where the site has a page, and its path is in the list
pub files_are_listed : (site : SiteValue) (minor : ℕ) (method target : List ℕ) (fields : NamesAndValues) (file : PageFile)
    → asked_for site minor method target fields ≡ asked.File file → (site.has_page ≡ true) × (value_at (path_of target) page_files ≡ Some file)
unfolding NoneIs
files_are_listed site minor method target fields file e =
    by_kind (is_handshake fields) (here_and_well_formed site minor method target fields (asked.File file) (λ e. cc) (λ e. cc) e).2
  where
    listed : (b : Bool) → asked_file (if b then value_at (path_of target) page_files else None) ≡ asked.File file
        → (b ≡ true) × (value_at (path_of target) page_files ≡ Some file)
    listed false e = cc
    listed true e = (refl, it_is (value_at (path_of target) page_files) e)
      where
        it_is : (found : Option PageFile) → asked_file found ≡ asked.File file → found ≡ Some file
        it_is None e = cc
        it_is (Some f) e = cc

    by_kind : (b : Bool)
        → cond b (asked_by_handshake site method (path_of target) (values_named (codes "host") fields) (values_named (codes "origin") fields) (offered minor fields)) (asked_by_page site method (path_of target)) ≡ asked.File file
        → (site.has_page ≡ true) × (value_at (path_of target) page_files ≡ Some file)
    by_kind true e = absurd (handshake_gets_no_file site method (path_of target) (values_named (codes "host") fields) (values_named (codes "origin") fields) (offered minor fields) file (offer_gets_no_file minor fields file) e)
    by_kind false e =
        let found = (second (is_reading method) _ _ _ (λ e. cc) e).1 in
        listed site.has_page
        (default_is (path_of target) site_paths (asked_file (file_at site (path_of target))) (asked.File file) ((λ e. cc), ((λ e. cc), ((λ e. cc), tt))) found)
