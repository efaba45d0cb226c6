-- What an index of receipts has at each key.
use Rattle.std.proofs.Common.{◌≡◌, ℕ, ◌+◌, ◌<◌, Bool, true, false, cond, if◌then◌else◌, List, [], ◌∷◌, ◌++◌, map, length, take, filter, get_or, Option, None, Some, Vec, vec_len, Bor, refl, sym, ap, ◌∙◌, bytes_eq, nat_cmp}
use Rattle.std.proofs.lemmas.Cmp.{nat_list_eq_equiv}
use Rattle.std.proofs.lemmas.List.{map-append, take_more, append-nil}
use Rattle.std.proofs.lemmas.List.Elements.{filter-append}
use Rattle.std.proofs.lemmas.Map.Text.{btree_map_updates_str}
use Rattle.std.proofs.lemmas.Slice.Eq.{bytes_eq-Decides}
use Rattle.std.specs.BTreeMap.{BTreeMap, get_by, is_at, UpdatesBy}
use Rattle.std.specs.Cmp.Lexicographic.{slice_cmp}
use Rattle.std.specs.List.{flat_map}
use Rattle.std.specs.Map.{lookup}
use Rattle.std.specs.Option.{option_map_or, UnwrapsOrElse}
use Rattle.std.specs.declared.alloc.Global.{Global}
use Rattle.fe2o3_sasl.specs.declared.audit.receipts.ServerReceipt as code_server
use Rattle.fe2o3_sasl.specs.private.Findings.{server_receipt, same, found, row_at}
use Rattle.fe2o3_sasl.specs.private.Receipts.{ServerReceipt}

-- ---- what an index is and has

-- the receipts at one key
abbrev Row : Type 0
Row = Vec (Bor code_server.ServerReceipt) Global

-- an index
abbrev Rows : Type 0
Rows = BTreeMap (Bor (List ℕ)) Row

-- its entries
abbrev Entries : Type 0
Entries = List (Bor (List ℕ) × Row)

-- the row at these bytes
abbrev in_entries : Entries → List ℕ → Option Row
in_entries entries bytes = lookup (is_at (λ key. slice_cmp nat_cmp bytes key.now)) entries

-- the same of the index
abbrev at : Rows → List ℕ → Option Row
at index bytes = get_by (λ key. slice_cmp nat_cmp bytes key.now) index

-- the receipts that the values are
abbrev receipts : List (Bor code_server.ServerReceipt) → List ServerReceipt
receipts row = map (λ server. server_receipt server.now) row

-- what is there, none where there is no row
abbrev items : Option Row → List (Bor code_server.ServerReceipt)
items row = option_map_or (λ row. row.items) row []

-- ---- one receipt more

-- the row that a push lengthens
same_row : (stored : Option Row) (row : Row) → UnwrapsOrElse stored (λ made. (made.items ≡ []) × (vec_len made ≡ 0)) row
    → row.items ≡ items stored
same_row None row made = made.0
same_row (Some other) row is = ap (λ (r : Row). r.items) is

-- a receipt that is put after the others at its bytes
pub put_row : (entries : Entries) (index next : Rows) (bytes other : List ℕ) (stored : Option Row) (row longer : Row)
    (server : Bor code_server.ServerReceipt)
    → UpdatesBy (λ x y. slice_cmp nat_cmp x.now y.now) (λ key. slice_cmp nat_cmp bytes key.now) index next (Some longer)
    → stored ≡ at index bytes → UnwrapsOrElse stored (λ made. (made.items ≡ []) × (vec_len made ≡ 0)) row
    → longer.items ≡ row.items ++ server ∷ [] → entries ≡ next.entries
    → receipts (items (in_entries entries other))
    ≡ (if same other bytes then row_at index other ++ server_receipt server.now ∷ [] else row_at index other)
put_row entries index next bytes other stored row longer server updates is unwraps pushed same_entries =
    let symmetric : bytes_eq bytes other ≡ bytes_eq other bytes = nat_list_eq_equiv.symm bytes other in
    let updated : at next other ≡ cond (bytes_eq bytes other) (Some longer) (at index other) =
    btree_map_updates_str bytes index next (Some longer) updates other in
    ap (λ (r : Entries). receipts (items (in_entries r other))) same_entries
    ∙ (ap (λ (r : Option Row). receipts (items r)) updated
    ∙ (ap (λ (b : Bool). receipts (items (cond b (Some longer) (at index other)))) symmetric
    ∙ cases (bytes_eq other bytes) refl))
  where
    grown : other ≡ bytes
        → receipts longer.items ≡ receipts (items (at index other)) ++ server_receipt server.now ∷ []
    grown e =
        ap receipts (pushed ∙ ap (λ (r : List (Bor code_server.ServerReceipt)). r ++ server ∷ [])
        (same_row stored row unwraps ∙ (ap items is ∙ ap (λ (b : List ℕ). items (at index b)) (sym e))))
        ∙ map-append (λ (s : Bor code_server.ServerReceipt). server_receipt s.now) (items (at index other))
        (server ∷ [])

    cases : (b : Bool) → bytes_eq other bytes ≡ b → receipts (items (cond b (Some longer) (at index other)))
        ≡ (if b then receipts (items (at index other)) ++ server_receipt server.now ∷ []
        else receipts (items (at index other)))
    cases true e = grown ((bytes_eq-Decides other bytes).0 e)
    cases false e = refl

-- ---- a loop that puts each receipt in the index

-- the matches in a list that is one longer
filter_more : {A B : Type 0} (p : B → Bool) (g : A → B) (xs : List A) (i : ℕ) (x : A) → i < length xs
    → x ≡ get_or xs i x → filter p (map g (take (i + 1) xs)) ≡ filter p (map g (take i xs)) ++ filter p (g x ∷ [])
filter_more p g xs i x below is =
    ap (λ ys. filter p (map g ys)) (take_more xs i x below)
    ∙ (ap (filter p) (map-append g (take i xs) (get_or xs i x ∷ []))
    ∙ (filter-append p (map g (take i xs)) (g (get_or xs i x) ∷ [])
    ∙ ap (λ y. filter p (map g (take i xs)) ++ filter p (g y ∷ [])) (sym is)))

-- one of them, or none
filter_one : {B : Type 0} (p : B → Bool) (front : List B) (y : B) (b : Bool) → p y ≡ b
    → (if b then front ++ y ∷ [] else front) ≡ front ++ filter p (y ∷ [])
filter_one p front y true e = ap (λ c. front ++ cond c (y ∷ []) []) (sym e)
filter_one p front y false e = sym (append-nil front) ∙ ap (λ c. front ++ cond c (y ∷ []) []) (sym e)

-- the row at these bytes after one receipt more
pub row_more : (key : ServerReceipt → List ℕ) (bytes put : List ℕ) (oks : List code_server.ServerReceipt) (i : ℕ)
    (server : code_server.ServerReceipt) (now next : List ServerReceipt) → i < length oks
    → server ≡ get_or oks i server → put ≡ key (server_receipt server)
    → now ≡ filter (λ ok. same bytes (key ok)) (map server_receipt (take i oks))
    → next ≡ (if same bytes put then now ++ server_receipt server ∷ [] else now)
    → next ≡ filter (λ ok. same bytes (key ok)) (map server_receipt (take (i + 1) oks))
row_more key bytes put oks i server now next below is keyed before grown =
    let at_key = λ (ok : ServerReceipt). same bytes (key ok) in
    let front = filter at_key (map server_receipt (take i oks)) in
    grown ∙ (ap (λ z. if same bytes z then now ++ server_receipt server ∷ [] else now) keyed
    ∙ (ap (λ z. if at_key (server_receipt server) then z ++ server_receipt server ∷ [] else z) before
    ∙ (filter_one at_key front (server_receipt server) (at_key (server_receipt server)) refl
    ∙ sym (filter_more at_key server_receipt oks i server below is))))

-- ---- a row has what is found of one receipt

pub row_found : {A B F : Type 0} (meets : A → B → Bool) (finding : A → B → F) (left : A) (rights : List B)
    → map (finding left) (filter (meets left) rights) ≡ flat_map (found meets finding left) rights
row_found meets finding left [] = refl
row_found meets finding left (right ∷ rights) = go (row_found meets finding left rights) (meets left right)
  where
    go : map (finding left) (filter (meets left) rights) ≡ flat_map (found meets finding left) rights → (b : Bool)
        → map (finding left) (cond b (right ∷ filter (meets left) rights) (filter (meets left) rights))
        ≡ cond b (finding left right ∷ []) [] ++ flat_map (found meets finding left) rights
    go rest true = ap (λ rows. finding left right ∷ rows) rest
    go rest false = rest
