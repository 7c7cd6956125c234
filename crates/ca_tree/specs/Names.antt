-- Words that are no names of a program's own: keywords, names of the libraries, and the calls of the library.
use Rattle.std.specs.Prelude.{ℕ, Bool, ◌||◌, List, [], ◌∷◌, codes}
use Rattle.std.specs.List.{list_any}
use Rattle.std.specs.Str.{bytes_eq}

-- keywords of C11 (6.4.1) that the grammar has
abbrev pub kept_keywords : List (List ℕ)
kept_keywords =
    codes "int" ∷ codes "struct" ∷ codes "void" ∷ codes "static" ∷ codes "volatile" ∷ codes "return" ∷ codes "break" ∷ codes "continue" ∷ codes "if"
    ∷ codes "else" ∷ codes "while" ∷ codes "do" ∷ codes "for" ∷ codes "sizeof" ∷ []

-- and those that it leaves out
abbrev pub plain_left_out : List (List ℕ)
plain_left_out =
    codes "auto" ∷ codes "case" ∷ codes "char" ∷ codes "const" ∷ codes "default" ∷ codes "double" ∷ codes "enum" ∷ codes "extern" ∷ codes "float"
    ∷ codes "goto" ∷ codes "inline" ∷ codes "long" ∷ codes "register" ∷ codes "restrict" ∷ codes "short" ∷ codes "signed" ∷ codes "switch"
    ∷ codes "typedef" ∷ codes "union" ∷ codes "unsigned" ∷ []

abbrev pub underscored_left_out : List (List ℕ)
underscored_left_out =
    codes "_Alignas" ∷ codes "_Alignof" ∷ codes "_Atomic" ∷ codes "_Bool" ∷ codes "_Complex" ∷ codes "_Generic" ∷ codes "_Imaginary"
    ∷ codes "_Noreturn" ∷ codes "_Static_assert" ∷ codes "_Thread_local" ∷ []

-- names of the libraries that no program gives to a thing of its own
abbrev pub reserved_names : List (List ℕ)
reserved_names = codes "NULL" ∷ codes "PTHREAD_MUTEX_INITIALIZER" ∷ codes "pthread_t" ∷ codes "pthread_mutex_t" ∷ []

-- the calls of the library (C11 7, POSIX `pthread.h`)
abbrev pub library_words : List (List ℕ)
library_words =
    codes "malloc" ∷ codes "free" ∷ codes "assert" ∷ codes "printf" ∷ codes "pthread_mutex_lock" ∷ codes "pthread_mutex_unlock"
    ∷ codes "pthread_create" ∷ codes "pthread_join" ∷ []

abbrev pub is_one_of : List (List ℕ) → List ℕ → Bool
is_one_of words t = list_any (λ w. bytes_eq t w) words

unfoldable pub is_left_out : List ℕ → Bool
is_left_out t = is_one_of plain_left_out t || is_one_of underscored_left_out t

-- what is no name
unfoldable pub is_reserved : List ℕ → Bool
is_reserved t = is_one_of kept_keywords t || (is_left_out t || is_one_of reserved_names t)

unfoldable pub is_library_word : List ℕ → Bool
is_library_word t = is_one_of library_words t
