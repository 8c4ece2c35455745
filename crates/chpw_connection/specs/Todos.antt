-- What is to be done for a connection.
use Rattle.std.specs.Prelude.{Option, Some, None}
use Rattle.chpw_connection.specs.Messages.{wanted_after}
use Rattle.chpw_connection.specs.Stages.{Stage, reading, queued, answering, confirming, writing, lingering, abandoned, ended, stage}
use Rattle.chpw_connection.specs.declared.connection.Connection.{Connection}
use Rattle.chpw_connection.specs.declared.todo.Todo.{Todo}
use Rattle.chpw_connection.specs.declared.todo.Todo.TheVariants as todo

abbrev pub todo_at : Stage → Todo
todo_at (reading bytes) = todo.Read (wanted_after bytes)
todo_at (writing left last) = todo.Write
todo_at lingering = todo.Linger
todo_at ended = todo.Close
todo_at (queued message) = todo.Wait
todo_at (answering message) = todo.Wait
todo_at (confirming reply last ticket) = todo.Wait
todo_at abandoned = todo.Wait

abbrev pub todo_in : Option Connection → Todo
todo_in None = todo.Wait
todo_in (Some c) = todo_at (stage c)
