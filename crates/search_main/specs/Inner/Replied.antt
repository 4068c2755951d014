-- What is printed of searches.
use Rattle.std.specs.Prelude.{◌≡◌, ℕ, List, [], ◌++◌}
use Rattle.std.specs.List.{flat_map, AllByRecursion, AllZip}
use Rattle.java_model.specs.Documents.{Document}
use Rattle.java_model.specs.DocumentTexts.{IsEnvOf}
use Rattle.java_model.specs.Names.Environments.{Env}
use Rattle.script_text.specs.declared.script.Search.{Search}
use Rattle.script_text.specs.Replies.{Reply, reply_text, output_text}
use Rattle.search_main.specs.declared.opening.Opened.{Opened}
use Rattle.search_main.specs.Inner.Located.{IsOpenedIn}
use Rattle.search_main.specs.Inner.Views.{documents_read}
use Rattle.search_main.specs.Legal.{at_1_4, Answers}

-- documents that were read, and their environment
pub record IsOpening (env : Env) (opened : List Opened) : Type 0 where
  pub is_env : IsEnvOf at_1_4 (documents_read opened) env
  pub each : AllByRecursion (IsOpenedIn env) opened

-- a reply to a search was appended
pub record IsReplied (docs : List Document) (search : Search) (before after : List ℕ) : Type 0 where
  pub reply : Reply
  pub answers : Answers docs [] search reply
  pub appended : after ≡ before ++ reply_text reply

-- the replies to some searches were appended
pub record AreReplied (docs : List Document) (searches : List Search) (before after : List ℕ) : Type 0 where
  pub replies : List Reply
  pub answers : AllZip (Answers docs []) searches replies
  pub appended : after ≡ before ++ flat_map reply_text replies

-- an output of these searches
pub record IsOutputOf (docs : List Document) (searches : List Search) (text : List ℕ) : Type 0 where
  pub replies : List Reply
  pub answers : AllZip (Answers docs []) searches replies
  pub printed : text ≡ output_text (record { journal = []; replies = replies })
