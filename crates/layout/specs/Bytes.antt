-- The bytes of a layout, as they are written.
use Rattle.std.specs.Prelude.{ℕ, List, [], ◌∷◌}
use Rattle.layout.specs.Layout.{Item}

-- the bytes that name fields
unfoldable pub bytes_of : List Item → List ℕ
bytes_of [] = []
bytes_of (f ∷ fs) = f.kind ∷ f.width ∷ bytes_of fs
